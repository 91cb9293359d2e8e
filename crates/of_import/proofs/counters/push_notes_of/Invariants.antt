use Rattle.std.{specs.Prelude.map, specs.List.flat_map, proofs.Common.◌≡◌, proofs.Common.◌++◌, proofs.Common.take, proofs.Common.ℕ}
use Rattle.of_import.specs.{Counters.notes_in, CounterViews.view_notes, ParsedLinesViews.view_flow_line}
use Rattle.of_import.proofs.counters.push_notes_of.Given as goal

abbrev pub invariant-loop-table : goal.invariant-loop-table
invariant-loop-table l = view_notes l.notes.items ≡ view_notes l.initial.notes.items ++ flat_map (λ (table : ℕ). notes_in table (map view_flow_line l.flows)) (take l.table-index l.ids)
