-- HOW A FLOW ENTRY IS NAMED: `table 1 entry 0 (line 12, priority 100, eth_type 0x0800, n_packets=0)`.
use Rattle.std.specs.Prelude.{ℕ, List, [], ◌++◌, slice_get, codes, decimal, Option, Some, None}
use Rattle.std.specs.List.{flat_map}
use Rattle.of_text.specs.Flows.{Flow}
use Rattle.of_check.specs.Tables.{flows_at}
use Rattle.of_values.specs.{Entries.entry_words, Origins.EntryOrigin, Origins.further_counter}

-- where an entry comes from, among the origins of entries by table, then by age
abbrev pub origin_among : ℕ → Option (List EntryOrigin) → Option EntryOrigin
origin_among place None = None
origin_among place (Some origins) = slice_get origins place

abbrev pub origin_at : List (List EntryOrigin) → ℕ → ℕ → Option EntryOrigin
origin_at origins table place = origin_among place (slice_get origins table)

abbrev pub line_words : Option EntryOrigin → List ℕ
line_words None = []
line_words (Some o) = codes "line " ++ decimal o.line ++ codes ", "

-- what a dump counted of it
abbrev pub counter_words_of : Option EntryOrigin → List ℕ
counter_words_of None = []
counter_words_of (Some o) = flat_map further_counter o.counters

-- its line, its priority, its match and its counters, if there is such an entry
unfoldable pub detail_words : Option EntryOrigin → Option Flow → List ℕ
detail_words origin None = []
detail_words origin (Some f) = codes " (" ++ line_words origin ++ entry_words f.head.priority f.fields ++ counter_words_of origin ++ codes ")"

abbrev pub place_words : ℕ → ℕ → List ℕ
place_words table place = codes "table " ++ decimal table ++ codes " entry " ++ decimal place

-- AN ENTRY: its table, its place there by age, from 0, and what it is
unfoldable pub entry : List (List EntryOrigin) → List (List Flow) → ℕ → ℕ → List ℕ
entry origins tables table place = place_words table place ++ detail_words (origin_at origins table place) (slice_get (flows_at tables table) place)
