use Rattle.std.{specs.List.AllByRecursion, proofs.Common.◌≡◌, proofs.Common.◌++◌, proofs.Common.drop}
use Rattle.of_lines.specs.Rows.{Fits}
use Rattle.of_text.{specs.Groups.rows_of_groups, specs.Views.view_groups, proofs.WriteLemmas.groups_text}
use Rattle.of_text.proofs.disassembling.write_groups.Given as goal

abbrev pub invariant-loop-group : goal.invariant-loop-group
invariant-loop-group l = record {
  fits : AllByRecursion Fits (rows_of_groups (view_groups (drop l.group-index l.groups)));
  text : l.out.items ++ groups_text (view_groups (drop l.group-index l.groups)) ≡ l.fn.out.items ++ groups_text (view_groups l.groups);
}
