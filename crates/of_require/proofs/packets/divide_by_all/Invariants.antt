use Rattle.std.proofs.Common.{take}
use Rattle.of_require.specs.Deciding.{AreDividedByAll}
use Rattle.of_require.proofs.packets.divide_by_all.Given as goal

abbrev pub invariant-loop-fields : goal.invariant-loop-fields
invariant-loop-fields l = AreDividedByAll (take l.fields-index l.lists) l.fn.frames l.sets.items
