use Rattle.std.proofs.Common.{take}
use Rattle.of_symbolic.specs.Parts.{HaveConditions}
use Rattle.of_symbolic.proofs.part.rivals_in.Given as goal

abbrev pub invariant-loop-name : goal.invariant-loop-name
invariant-loop-name l = HaveConditions (take l.name l.lacks) l.rivals.items
