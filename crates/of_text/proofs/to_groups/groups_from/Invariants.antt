use Rattle.std.{specs.List.list_all, proofs.Common.◌≡◌, proofs.Common.◌++◌, proofs.Common.true, proofs.Common.drop}
use Rattle.of_groups.specs.Sound.{is_fit_group}
use Rattle.of_text.specs.{Groups.groups_at, Views.view_groups}
use Rattle.of_text.proofs.to_groups.groups_from.Given as goal

abbrev pub invariant-loop-group : goal.invariant-loop-group
invariant-loop-group l = record {
  fit : list_all is_fit_group (groups_at l.created (view_groups (drop l.group-index l.groups))) ≡ true;
  made : l.made.items ++ groups_at l.created (view_groups (drop l.group-index l.groups)) ≡ groups_at l.created (view_groups l.groups);
}
