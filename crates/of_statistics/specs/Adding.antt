-- Sums of what entries have counted, entry by entry.
use Rattle.std.specs.Prelude.{ℕ, ◌+◌, ◌%◌, ◌^◌, List, [], ◌∷◌, filter, if◌then◌else◌}
use Rattle.of_table.specs.{declared.selection.Selector.Selector, Table.FlowEntry, Table.Table, Tables.is_in, Selecting.selects}
use Rattle.of_statistics.specs.declared.aggregate.Totals.{Totals}

abbrev pub nothing : Totals
nothing = record { packets = 0; bytes = 0; flows = 0 }

-- with one more entry
abbrev pub plus_entry : Totals → FlowEntry → Totals
plus_entry t e = record { packets = (t.packets + e.packets) % 2 ^ 64; bytes = (t.bytes + e.bytes) % 2 ^ 64; flows = t.flows + 1 }

unfoldable pub plus_all : Totals → List FlowEntry → Totals
plus_all t [] = t
plus_all t (e ∷ es) = plus_all (plus_entry t e) es

-- with an entry, if it is asked for
abbrev pub plus_asked : Selector → Totals → FlowEntry → Totals
plus_asked w t e = if selects w e then plus_entry t e else t

-- the entries of a table that are asked for
abbrev pub asked_of : Selector → ℕ → Table → List FlowEntry
asked_of w k t = if is_in w.table k then filter (selects w) t.flows else []
