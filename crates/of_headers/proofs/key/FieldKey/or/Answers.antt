use Rattle.of_headers.{specs.Numbers.numbers_in, proofs.PresenceLemmas.absent_or, proofs.PresenceLemmas.fields_or, proofs.PresenceLemmas.value_or}
use Rattle.of_headers.proofs.key.FieldKey.or.Goals as goal

pub invariant_of-result : goal.invariant_of-result
invariant_of-result c = record {
  known = rw c.either.ensures.present (fields_or c.args.self.now.numbers.present c.args.other.now.numbers.present c.args.self.now.known c.args.other.now.known);
  absent = rw (c.either.ensures.present, c.either.ensures.numbers) (absent_or c.args.self.now.numbers.present c.args.other.now.numbers.present (numbers_in c.args.self.now.numbers) (numbers_in c.args.other.now.numbers) c.args.self.now.absent c.args.other.now.absent);
}

pub returns : goal.returns
returns c = value_or c.args.self.now c.args.other.now _ c.either.ensures.present c.either.ensures.numbers
