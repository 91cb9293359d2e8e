use Rattle.std.{specs.Prelude.bit_or, proofs.Common.◌∙◌, proofs.Common.ap}
use Rattle.of_headers.{specs.Numbers.numbers_in, proofs.PresenceLemmas.fields_with, proofs.PresenceLemmas.absent_with, proofs.PresenceLemmas.value_with}
use Rattle.of_headers.proofs.key.FieldKey.with.Goals as goal

pub invariant_of-result : goal.invariant_of-result
invariant_of-result c = record {
  known = rw (c.set.ensures.present, c.bit.ensures) (fields_with c.args.self.numbers.present c.args.field c.args.self.known);
  absent = rw (c.set.ensures.present, c.set.ensures.number, c.bit.ensures) (absent_with c.args.self.numbers.present c.args.field c.args.number (numbers_in c.args.self.numbers) c.args.self.absent);
}

pub returns : goal.returns
returns c = value_with c.args.self _ c.args.field c.args.number (c.set.ensures.present ∙ ap (bit_or c.args.self.numbers.present) c.bit.ensures) c.set.ensures.number
