-- The entries of a flow table, oldest first, with the numbers by which it names them.
use Rattle.std.specs.Prelude.{◌≡◌, ℕ, ◌==◌, ◌++◌, Bool, false, not, List, [], ◌∷◌, Option, MatchOption, map, filter, find}
use Rattle.std.specs.{List.list_any, List.position_or_len, Option.option_map}
use Rattle.of_classifier.specs.{declared.Row.Row, Rows.made_row}
use Rattle.of_table.specs.{declared.entry.Entry.Entry, declared.flow.Flow.Flow, Table.FlowEntry, Table.Table, Table.is_same, Table.with_flow}

-- an entry without its number
abbrev pub entry_of : Entry → FlowEntry
entry_of e = record { flow = e.flow; packets = e.packets; bytes = e.bytes; created = e.created; last = e.last }

-- and with it
abbrev pub numbered_entry : ℕ → FlowEntry → Entry
numbered_entry number e = record { number = number; flow = e.flow; packets = e.packets; bytes = e.bytes; created = e.created; last = e.last }

-- a change of an entry, which keeps its number
abbrev pub on_entry : (FlowEntry → FlowEntry) → Entry → Entry
on_entry f e = numbered_entry e.number (f (entry_of e))

abbrev pub flows_of : List Entry → List FlowEntry
flows_of entries = map entry_of entries

-- what a classifier knows of an entry
abbrev pub classifier_row : Entry → Row
classifier_row e = made_row e.number e.flow.priority e.flow.fields

abbrev pub rows_of : List Entry → List Row
rows_of entries = map classifier_row entries

abbrev pub entry_number : Entry → ℕ
entry_number e = e.number

abbrev pub entry_numbers : List Entry → List ℕ
entry_numbers entries = map entry_number entries

-- some entry has the number
abbrev pub is_entry_there : ℕ → List Entry → Bool
is_entry_there number entries = list_any (λ n. n == number) (entry_numbers entries)

-- the place of the entry of a number, from 0; the length where there is none
abbrev pub place_of : ℕ → List Entry → ℕ
place_of number entries = position_or_len (λ n. n == number) (entry_numbers entries)

abbrev pub find_number : ℕ → List Entry → Option Entry
find_number number entries = find (λ e. e.number == number) entries

-- ---- adding

-- the entry of the flow's priority and match
abbrev pub same_entry : Flow → List Entry → Option Entry
same_entry flow entries = find (λ e. is_same flow (entry_of e)) entries

-- the number of the entry that the flow replaces, or else one that is not in use
abbrev pub IsNumberFor : Flow → List Entry → ℕ → Type 0
IsNumberFor flow entries number = MatchOption (same_entry flow entries) (is_entry_there number entries ≡ false) (λ e. number ≡ e.number)

-- with the new entry under a number
abbrev pub added_entries : ℕ → ℕ → Flow → List Entry → List Entry
added_entries number now flow entries = filter (λ e. not (is_same flow (entry_of e))) entries ++ numbered_entry number (with_flow now flow (option_map entry_of (same_entry flow entries))) ∷ []

-- ---- tables

-- a table, with numbers
pub record Numbered : Type 0 where
  pub lookups : ℕ
  pub matched : ℕ
  pub entries : List Entry

abbrev pub no_entries : Numbered
no_entries = record { lookups = 0; matched = 0; entries = [] }

abbrev pub table_of : Numbered → Table
table_of t = record { lookups = t.lookups; matched = t.matched; flows = flows_of t.entries }

-- a flow is added to a table
pub record AddsEntry (now : ℕ) (flow : Flow) (old new : Numbered) : Type 0 where
  pub number : ℕ
  pub named : IsNumberFor flow old.entries number
  pub table : new ≡ record old { entries = added_entries number now flow old.entries }
