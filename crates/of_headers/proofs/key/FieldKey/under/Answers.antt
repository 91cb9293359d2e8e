use Rattle.of_headers.{specs.Numbers.numbers_in, proofs.PresenceLemmas.absent_under, proofs.PresenceLemmas.fields_under, proofs.PresenceLemmas.value_under}
use Rattle.of_headers.proofs.key.FieldKey.under.Goals as goal

pub invariant_of-result : goal.invariant_of-result
invariant_of-result c = record {
  known = rw c.both.ensures.present (fields_under c.args.self.now.numbers.present c.args.mask.now.numbers.present c.args.self.now.known);
  absent = rw (c.both.ensures.present, c.both.ensures.numbers) (absent_under c.args.self.now.numbers.present c.args.mask.now.numbers.present (numbers_in c.args.self.now.numbers) (numbers_in c.args.mask.now.numbers) c.args.self.now.absent c.args.mask.now.absent);
}

pub returns : goal.returns
returns c = value_under c.args.self.now c.args.mask.now _ c.both.ensures.present c.both.ensures.numbers
