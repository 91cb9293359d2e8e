use Rattle.std.{specs.Prelude.map, proofs.Common.◌≡◌, proofs.Common.◌++◌, proofs.Common.drop}
use Rattle.of_values.specs.Origins.{printable}
use Rattle.of_values.proofs.characters.push_printable.Given as goal

abbrev pub invariant-loop-byte : goal.invariant-loop-byte
invariant-loop-byte l = l.out.items ++ map printable (drop l.byte-index l.text) ≡ l.fn.out.items ++ map printable l.text
