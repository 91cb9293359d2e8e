use Rattle.std.proofs.Common.{take}
use Rattle.of_symbolic.specs.Parts.{AreListsOfConditions}
use Rattle.of_require.specs.Packets.{AreAsked}
use Rattle.of_require.proofs.packets.all_asked.Given as goal

abbrev pub invariant-loop-e : goal.invariant-loop-e
invariant-loop-e l = record {
  asked : AreAsked l.inner l.fields (take l.e-index l.emitted) l.lists.items;
  conditions : AreListsOfConditions l.lists.items;
}
