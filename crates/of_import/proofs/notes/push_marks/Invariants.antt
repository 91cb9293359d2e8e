use Rattle.std.{specs.Prelude.map, specs.List.flat_map, proofs.Common.◌≡◌, proofs.Common.◌++◌, proofs.Common.take}
use Rattle.of_import.specs.{Notes.mark_notes, ParsedLinesViews.view_flow_line}
use Rattle.of_import.proofs.notes.push_marks.Given as goal

abbrev pub invariant-loop-it : goal.invariant-loop-it
invariant-loop-it l = l.out.items ≡ l.initial.out.items ++ flat_map mark_notes (map view_flow_line (take l.it-index l.flows))
