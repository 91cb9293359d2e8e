use Rattle.std.proofs.Common.{arith}
use Rattle.of_formats.proofs.StructLaws.{written_is_read, written_texts, length_written, numbers_fit, same_but_padding}
use Rattle.of_formats.proofs.laws.structs_are_read_and_written.Goals as goal

pub returns-clause-numbers : goal.returns-clause-numbers
returns-clause-numbers c = written_is_read

pub returns-clause-texts : goal.returns-clause-texts
returns-clause-texts c = written_texts

pub returns-clause-size : goal.returns-clause-size
returns-clause-size c = length_written

pub returns-clause-fit : goal.returns-clause-fit
returns-clause-fit c s at = numbers_fit s at c.args.a.now (λ i. omega (arith, c.type_inv.a i))

pub returns-clause-same : goal.returns-clause-same
returns-clause-same c s la lb ns xs = same_but_padding s c.args.a.now c.args.b.now (λ i. omega (arith, c.type_inv.a i)) (λ i. omega (arith, c.type_inv.b i)) la lb ns xs
