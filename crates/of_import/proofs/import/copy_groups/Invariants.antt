use Rattle.std.{specs.Prelude.map, proofs.Common.◌≡◌, proofs.Common.◌++◌, proofs.Common.take}
use Rattle.of_text.specs.Views.{view_groups}
use Rattle.of_import.specs.declared.parsed_lines.GroupLine.{GroupLine}
use Rattle.of_import.proofs.import.copy_groups.Given as goal

abbrev pub invariant-loop-it : goal.invariant-loop-it
invariant-loop-it l = record {
  lines : l.lines.items ≡ l.initial.lines.items ++ map (λ (g : GroupLine). g.line) (take l.it-index l.groups);
  groups : view_groups l.made.items ≡ view_groups (map (λ (g : GroupLine). g.group) (take l.it-index l.groups));
}
