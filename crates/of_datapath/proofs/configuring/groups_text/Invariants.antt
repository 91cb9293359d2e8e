use Rattle.std.{specs.Prelude.map, specs.List.AllByRecursion, proofs.Common.◌≡◌, proofs.Common.◌++◌, proofs.Common.drop}
use Rattle.of_text.specs.{Groups.group_text, Groups.rows_of_groups, Rows.Fits, Views.view_group, Views.view_groups}
use Rattle.of_datapath.proofs.configuring.groups_text.Given as goal

abbrev pub invariant-loop-group : goal.invariant-loop-group
invariant-loop-group l = record {
  made : map view_group l.made.items ++ map group_text (drop l.group-index l.groups) ≡ map group_text l.groups;
  fits : AllByRecursion Fits (rows_of_groups (view_groups l.made.items));
}
