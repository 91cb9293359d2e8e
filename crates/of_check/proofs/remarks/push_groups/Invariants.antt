use Rattle.std.{specs.Prelude.map, specs.List.flat_map, proofs.Common.◌≡◌, proofs.Common.◌++◌, proofs.Common.drop}
use Rattle.of_text.specs.Views.{view_group}
use Rattle.of_check.specs.Remarks.{group_remarks}
use Rattle.of_check.proofs.remarks.push_groups.Given as goal

abbrev pub invariant-loop-group : goal.invariant-loop-group
invariant-loop-group l = l.out.items ++ flat_map (group_remarks l.config) (map view_group (drop l.group-index l.group-items)) ≡ l.fn.out.items ++ flat_map (group_remarks l.config) l.config.groups
