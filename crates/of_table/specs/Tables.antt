-- The sixteen flow tables of the switch (OpenFlow 1.3.5, 5.1), and the latest moment that they know of.
use Rattle.std.specs.Prelude.{◌≡◌, ℕ, suc, ◌==◌, nat_le, max, Bool, true, List, [], ◌∷◌, ◌++◌, map, replicate, slice_set, slice_index_or, Option, Some, if◌then◌else◌}
use Rattle.std.specs.Option.{option_map_or}
use Rattle.of_actions.specs.declared.instruction.Instruction.{Instruction}
use Rattle.of_table.specs.Table.{Table, empty_table, added, add_flow_fault, looked, matched_at}
use Rattle.of_table.specs.Selecting.{Notice, NumberedNotice, modified, modified_entries, entries_left, kept_of, notices, numbered_notices}
use Rattle.of_table.specs.Entries.{Numbered, no_entries, table_of, entry_numbers, IsNumberFor, added_entries}
use Rattle.of_table.specs.{declared.flow.Flow.Flow, declared.table_fault.TableFault.TableFault, declared.table_fault.TableFault.TheVariants.BadTable, declared.selection.Selector.Selector}
use Rattle.of_table.specs.{declared.selection.Cause.Cause, declared.selection.Cause.TheVariants.Delete, declared.selection.Cause.TheVariants.Moment, declared.selection.Cause.TheVariants.Group}

-- ---- as a reader sees them

pub record Tables : Type 0 where
  pub tables : List Table
  pub latest : ℕ

-- a table by its number
abbrev pub table_at : ℕ → Tables → Table
table_at k ts = slice_index_or ts.tables k empty_table

abbrev pub with_table : ℕ → Table → Tables → Tables
with_table k t ts = record ts { tables = slice_set ts.tables k t }

-- ADD: the table's number is checked first
abbrev pub tables_fault : ℕ → Flow → Tables → Option TableFault
tables_fault k flow ts = if nat_le 16 k then Some BadTable else add_flow_fault flow (table_at k ts).flows

abbrev pub added_to : ℕ → Flow → Tables → Tables
added_to k flow ts = with_table k (record (table_at k ts) { flows = added ts.latest flow (table_at k ts).flows }) ts

-- a command concerns one table, or all
abbrev pub is_in : Option ℕ → ℕ → Bool
is_in table k = option_map_or (λ t. t == k) table true

-- each table, from number k on, changed by its number
abbrev pub each_from : {X : Type 0} → (ℕ → X → X) → ℕ → List X → List X
each_from f k [] = []
each_from f k (t ∷ ts) = f k t ∷ each_from f (suc k) ts

abbrev pub modified_table : Selector → List Instruction → Bool → ℕ → Table → Table
modified_table w instructions reset k t = if is_in w.table k then record t { flows = modified w instructions reset t.flows } else t

abbrev pub modified_in : Selector → List Instruction → Bool → Tables → Tables
modified_in w instructions reset ts = record ts { tables = each_from (modified_table w instructions reset) 0 ts.tables }

-- a moment concerns all tables, and so does a group
abbrev pub concerns : Cause → ℕ → Bool
concerns (Delete w) k = is_in w.table k
concerns (Moment now) k = true
concerns (Group group) k = true

abbrev pub left_table : Cause → ℕ → Table → Table
left_table cause k t = if concerns cause k then record t { flows = entries_left cause t.flows } else t

-- a moment below the latest counts as the latest
abbrev pub cause_at : ℕ → Cause → Cause
cause_at latest (Delete w) = Delete w
cause_at latest (Moment now) = Moment (max latest now)
cause_at latest (Group group) = Group group

-- and a later one is the latest from then on
abbrev pub latest_after : Cause → ℕ → ℕ
latest_after (Delete w) latest = latest
latest_after (Moment now) latest = max latest now
latest_after (Group group) latest = latest

abbrev pub left_in : Cause → Tables → Tables
left_in cause ts = record { tables = each_from (left_table (cause_at ts.latest cause)) 0 ts.tables; latest = latest_after cause ts.latest }

-- by table, then by age
abbrev pub table_notices : Cause → ℕ → Table → List Notice
table_notices cause k t = if concerns cause k then notices cause k t.flows else []

abbrev pub notices_from : Cause → ℕ → List Table → List Notice
notices_from cause k [] = []
notices_from cause k (t ∷ ts) = table_notices cause k t ++ notices_from cause (suc k) ts

abbrev pub notices_in : Cause → Tables → List Notice
notices_in cause ts = notices_from (cause_at ts.latest cause) 0 ts.tables

-- a moment: expired entries are removed
abbrev pub expired : ℕ → Tables → Tables
expired now ts = left_in (Moment now) ts

abbrev pub expiry_notices : ℕ → Tables → List Notice
expiry_notices now ts = notices_in (Moment now) ts

-- a packet was looked up in a table
abbrev pub looked_in : ℕ → Tables → Tables
looked_in k ts = with_table k (looked (table_at k ts)) ts

-- a packet of this many bytes hit the entry at a place of a table
abbrev pub matched_in : ℕ → ℕ → ℕ → Tables → Tables
matched_in k place bytes ts = with_table k (matched_at ts.latest place bytes (table_at k ts)) ts

-- ---- with the numbers of the entries

pub record NumberedTables : Type 0 where
  pub tables : List Numbered
  pub latest : ℕ

abbrev pub no_tables : NumberedTables
no_tables = record { tables = replicate 16 no_entries; latest = 0 }

abbrev pub numbered_at : ℕ → NumberedTables → Numbered
numbered_at k n = slice_index_or n.tables k no_entries

abbrev pub tables_of : NumberedTables → Tables
tables_of n = record { tables = map table_of n.tables; latest = n.latest }

-- the numbers of the entries of each table
abbrev pub all_numbers : NumberedTables → List (List ℕ)
all_numbers n = map (λ t. entry_numbers t.entries) n.tables

-- ---- what the commands do to them

abbrev pub added_numbered : ℕ → ℕ → Flow → NumberedTables → NumberedTables
added_numbered number k flow n = record n { tables = slice_set n.tables k (record (numbered_at k n) { entries = added_entries number n.latest flow (numbered_at k n).entries }) }

-- a flow is added to a table at the latest moment
pub record AddsFlow (k : ℕ) (flow : Flow) (old new : NumberedTables) : Type 0 where
  pub number : ℕ
  pub named : IsNumberFor flow (numbered_at k old).entries number
  pub tables : new ≡ added_numbered number k flow old

abbrev pub modified_numbered : Selector → List Instruction → Bool → ℕ → Numbered → Numbered
modified_numbered w instructions reset k t = if is_in w.table k then record t { entries = modified_entries w instructions reset t.entries } else t

abbrev pub all_modified : Selector → List Instruction → Bool → NumberedTables → NumberedTables
all_modified w instructions reset n = record n { tables = each_from (modified_numbered w instructions reset) 0 n.tables }

abbrev pub kept_table : Cause → ℕ → Numbered → Numbered
kept_table cause k t = if concerns cause k then record t { entries = kept_of cause t.entries } else t

abbrev pub all_kept : Cause → NumberedTables → NumberedTables
all_kept cause n = record { tables = each_from (kept_table (cause_at n.latest cause)) 0 n.tables; latest = latest_after cause n.latest }

abbrev pub told_table : Cause → ℕ → Numbered → List NumberedNotice
told_table cause k t = if concerns cause k then numbered_notices cause k t.entries else []

abbrev pub numbered_notices_from : Cause → ℕ → List Numbered → List NumberedNotice
numbered_notices_from cause k [] = []
numbered_notices_from cause k (t ∷ ts) = told_table cause k t ++ numbered_notices_from cause (suc k) ts

abbrev pub told_in : Cause → NumberedTables → List NumberedNotice
told_in cause n = numbered_notices_from (cause_at n.latest cause) 0 n.tables
