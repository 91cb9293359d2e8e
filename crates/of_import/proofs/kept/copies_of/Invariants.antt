use Rattle.std.{specs.Prelude.map, proofs.Common.◌≡◌, proofs.Common.◌++◌, proofs.Common.drop}
use Rattle.of_text.specs.Views.{view_group}
use Rattle.of_import.specs.declared.parsed_lines.GroupLine.{GroupLine}
use Rattle.of_import.proofs.kept.copies_of.Given as goal

abbrev pub invariant-loop-it : goal.invariant-loop-it
invariant-loop-it l = record {
  made : map view_group l.copies.items ++ map (λ (g : GroupLine). view_group g.group) (drop l.it-index l.groups) ≡ map (λ (g : GroupLine). view_group g.group) l.groups;
}
