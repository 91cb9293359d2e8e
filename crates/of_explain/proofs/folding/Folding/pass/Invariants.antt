use Rattle.std.proofs.Common.{ℕ, List, ◌++◌, take}
use Rattle.of_explain.specs.Folding.{IsFolded}
use Rattle.of_explain.proofs.folding.Folding.pass.Given as goal

abbrev pub invariant-loop-byte : goal.invariant-loop-byte
invariant-loop-byte l = (before printed : List ℕ) → IsFolded before printed l.fn.self → IsFolded (before ++ take l.byte-index l.text) (printed ++ l.out.items) l.self
