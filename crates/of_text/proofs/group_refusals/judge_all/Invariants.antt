use Rattle.std.{specs.List.AllByRecursion, proofs.Common.◌≡◌, proofs.Common.◌++◌, proofs.Common.drop, proofs.Common.vec_len}
use Rattle.of_lines.specs.Rows.{Fits}
use Rattle.of_text.specs.{Groups.rows_of_groups, Refusals.all_there, Refusals.there_from, Judging.codes_from, Views.view_groups}
use Rattle.of_text.proofs.group_refusals.judge_all.Given as goal

abbrev pub invariant-loop-group : goal.invariant-loop-group
invariant-loop-group l = record {
  fits : AllByRecursion Fits (rows_of_groups (view_groups (drop l.group-index l.groups)));
  count : vec_len l.there ≡ l.group-index;
  there : l.there.items ++ there_from l.group-index (view_groups (drop l.group-index l.groups)) ≡ all_there (view_groups l.groups);
  codes : l.codes.items ++ codes_from l.group-index (view_groups (drop l.group-index l.groups)) ≡ codes_from 0 (view_groups l.groups);
}
