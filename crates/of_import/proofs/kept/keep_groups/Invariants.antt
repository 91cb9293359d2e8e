use Rattle.std.proofs.Common.{◌≡◌, length}
use Rattle.of_import.specs.{Kept.kept_groups, KeptViews.view_kept_groups, ParsedLinesViews.AreSoundGroups}
use Rattle.of_import.proofs.kept.keep_groups.Given as goal

abbrev pub decreases-loop-left : goal.decreases-loop-left
decreases-loop-left l = l.left

abbrev pub invariant-loop-left : goal.invariant-loop-left
invariant-loop-left l = record {
  kept : kept_groups (length l.fn.groups.items) (view_kept_groups l.fn.groups l.fn.refused) ≡ kept_groups l.left (view_kept_groups l.groups l.refused);
  sound : AreSoundGroups l.groups.items;
}
