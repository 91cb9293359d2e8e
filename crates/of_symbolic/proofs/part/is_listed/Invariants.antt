use Rattle.std.proofs.Common.{take}
use Rattle.of_symbolic.specs.Parts.{IsListed}
use Rattle.of_symbolic.proofs.part.is_listed.Given as goal

abbrev pub invariant-loop-index : goal.invariant-loop-index
invariant-loop-index l = ¬ (IsListed (take l.index l.lacks) l.fields)
