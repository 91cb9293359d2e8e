-- The invariants of the entries of each table (OpenFlow 1.3.5, 5.2 and 5.9).
use Rattle.std.specs.Prelude.{◌≡◌, ◌≤◌, ℕ, suc, Bool, true, not, ◌&&◌, ◌==◌, List, [], ◌∷◌, map, length, IsTrue, ⊤}
use Rattle.std.specs.List.{list_any, list_all}
use Rattle.of_oxm.specs.{declared.match_field.MatchField.MatchField, SameMatch.is_same_match}
use Rattle.of_actions.specs.{declared.instruction.Instruction.Instruction, InstructionLists.are_kept, InstructionLists.are_for, FlowCheck.all_go_with}
use Rattle.of_classifier.specs.declared.Row.{Row}
use Rattle.of_table.specs.{declared.selection.Selector.Selector, Table.FlowEntry, Table.Table, Tables.is_in}

-- the instructions are valid in an entry of the table: in execution order, one of a type, and GOTO_TABLE leads to a later table
abbrev pub are_instructions_fit : ℕ → List Instruction → Bool
are_instructions_fit k instructions = are_kept instructions && are_for k instructions

abbrev pub is_entry_fit : ℕ → FlowEntry → Bool
is_entry_fit k e = are_instructions_fit k e.flow.instructions

-- their set-field actions have their prerequisites in the match
abbrev pub is_checked : FlowEntry → Bool
is_checked e = all_go_with e.flow.fields e.flow.instructions

-- priority and match, which identify an entry in its table
pub record Key : Type 0 where
  pub priority : ℕ
  pub fields : List MatchField

abbrev pub entry_key : FlowEntry → Key
entry_key e = record { priority = e.flow.priority; fields = e.flow.fields }

-- what a classifier keeps of an entry beside its number
abbrev pub row_key : Row → Key
row_key r = record { priority = r.priority; fields = r.fields }

-- the rows of a classifier are the entries of a table, whatever their numbers: by age, each of its entry's priority and match
abbrev pub AreRowsOf : List FlowEntry → List Row → Type 0
AreRowsOf flows rows = map row_key rows ≡ map entry_key flows

abbrev pub is_same_key : Key → Key → Bool
is_same_key k l = l.priority == k.priority && is_same_match l.fields k.fields

-- no two of them are the same
abbrev pub are_unlike : List Key → Bool
are_unlike [] = true
are_unlike (k ∷ ks) = not (list_any (is_same_key k) ks) && are_unlike ks

-- at most 4,096 entries, no two of the same priority and match, and the instructions of each are valid in it
pub record AreSoundEntries (k : ℕ) (flows : List FlowEntry) : Type 0 where
  pub few : length flows ≤ 4096
  pub unlike : IsTrue (are_unlike (map entry_key flows))
  pub fit : IsTrue (list_all (is_entry_fit k) flows)
  pub checked : IsTrue (list_all is_checked flows)

-- the tables, numbered from k on
abbrev pub AllSound : ℕ → List Table → Type 0
AllSound k [] = ⊤
AllSound k (t ∷ ts) = AreSoundEntries k t.flows × AllSound (suc k) ts

-- the instructions of a MODIFY are valid in each table that it selects
abbrev pub AreForAll : Selector → List Instruction → Type 0
AreForAll w instructions = (k : ℕ) → is_in w.table k ≡ true → are_for k instructions ≡ true
