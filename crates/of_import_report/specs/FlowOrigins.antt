-- WHERE FLOW ENTRIES COME FROM, in a table of Open vSwitch: for each table the lines and counters of its flows, by age.
use Rattle.std.specs.Prelude.{ℕ, zero, suc, ◌==◌, List, [], ◌∷◌, ◌++◌, if◌then◌else◌}
use Rattle.std.specs.List.{flat_map}
use Rattle.of_values.specs.Origins.{EntryOrigin, view_words}
use Rattle.of_import.specs.declared.parsed_lines.FlowLine.{FlowLine}

abbrev pub origin_of : FlowLine → EntryOrigin
origin_of f = record { line = f.line; counters = view_words f.marks.counters.items }

abbrev pub origin_in : ℕ → FlowLine → List EntryOrigin
origin_in table f = if f.flow.head.table == table then origin_of f ∷ [] else []

-- THOSE OF A TABLE: the one at place K is that of its entry K, since entries are in the order of the flows
unfoldable pub flow_origins_in : ℕ → List FlowLine → List EntryOrigin
flow_origins_in table flows = flat_map (origin_in table) flows

-- those of the first k tables
unfoldable pub flow_origins_below : ℕ → List FlowLine → List (List EntryOrigin)
flow_origins_below zero flows = []
flow_origins_below (suc k) flows = flow_origins_below k flows ++ flow_origins_in k flows ∷ []
