use Rattle.std.{specs.Prelude.map, proofs.Common.◌≡◌, proofs.Common.◌++◌, proofs.Common.take}
use Rattle.of_import.specs.{Counters.notes_in, CounterViews.view_notes, ParsedLinesViews.view_flow_line}
use Rattle.of_import.proofs.counters.push_notes_in.Given as goal

abbrev pub invariant-loop-it : goal.invariant-loop-it
invariant-loop-it l = view_notes l.notes.items ≡ view_notes l.initial.notes.items ++ notes_in l.table (map view_flow_line (take l.it-index l.flows))
