use Rattle.std.{specs.Prelude.bit_or, proofs.Common.◌∙◌, proofs.Common.ap}
use Rattle.of_headers.{specs.Numbers.numbers_in, proofs.PresenceLemmas.fields_with, proofs.PresenceLemmas.absent_with, proofs.PresenceLemmas.value_with}
use Rattle.of_headers.proofs.key.FieldKey.put.Goals as goal

pub invariant_of-self : goal.invariant_of-self
invariant_of-self c = record {
  known = rw (c.set.ensures.present, c.bit.ensures) (fields_with c.args.self.now.numbers.present c.args.field c.args.self.now.known);
  absent = rw (c.set.ensures.present, c.set.ensures.number, c.bit.ensures) (absent_with c.args.self.now.numbers.present c.args.field c.args.number (numbers_in c.args.self.now.numbers) c.args.self.now.absent);
}

pub returns : goal.returns
returns c = value_with c.args.self.now _ c.args.field c.args.number (c.set.ensures.present ∙ ap (bit_or c.args.self.now.numbers.present) c.bit.ensures) c.set.ensures.number
