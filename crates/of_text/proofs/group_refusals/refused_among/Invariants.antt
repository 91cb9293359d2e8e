use Rattle.std.proofs.Common.{◌≡◌, drop}
use Rattle.of_text.specs.{Refusals.all_there, First.refused_group, Views.view_groups}
use Rattle.of_text.proofs.group_refusals.refused_among.Given as goal

abbrev pub invariant-loop-place : goal.invariant-loop-place
invariant-loop-place l = refused_group (all_there (view_groups l.groups)) 0 (view_groups l.groups) ≡ refused_group (all_there (view_groups l.groups)) l.place (drop l.place (view_groups l.groups))
