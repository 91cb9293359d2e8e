use Rattle.std.{specs.Global.Vec, specs.Slice.Iter.iter_rest, proofs.Common.◌≤◌, proofs.Common.◌+◌, proofs.Common.List, proofs.Common.length}
use Rattle.of_actions.specs.declared.action.Action.{Action}
use Rattle.of_oxm.specs.declared.match_field.MatchField.{MatchField}
use Rattle.of_symbolic.specs.{Actions.AreRewriting, Overlays.IsOverlay, Parts.AreListsOfConditions}
use Rattle.of_table.specs.Entries.{flows_of}
use Rattle.of_diff.{specs.Changing.AreMarkedAskedIn, proofs.ChangingLemmas.HasAll}
use Rattle.of_diff.proofs.changing.push_all_asked.Given as goal

abbrev pub invariant-loop-entry : goal.invariant-loop-entry
invariant-loop-entry l = record {
  whole : (final : List (Vec MatchField)) → HasAll l.asked.items final → (a : List Action) → IsOverlay l.overlay a → AreRewriting a → AreMarkedAskedIn l.overlay.inner final a l.metadata (flows_of l.entry-iterator) (iter_rest l.left) → AreMarkedAskedIn l.overlay.inner final a l.metadata (flows_of l.fn.entries) l.marks;
  more : HasAll l.fn.asked.items l.asked.items;
  conditions : AreListsOfConditions l.fn.asked.items → AreListsOfConditions l.asked.items;
  few : length l.asked.items + length l.entry-iterator ≤ length l.fn.asked.items + length l.fn.entries;
}
