-- How many copies of its instructions a MODIFY needs: inner definitions, which no public contract cites.
use Rattle.std.specs.Prelude.{ℕ, suc, ◌+◌, count_by, Bool, List, [], ◌∷◌, if◌then◌else◌}
use Rattle.of_actions.specs.declared.instruction.Instruction.{Instruction}
use Rattle.of_table.specs.{declared.selection.Selector.Selector, declared.entry.Entry.Entry, Entries.Numbered, Entries.entry_of, Selecting.modifies, Tables.is_in}

-- copies of instructions, and how many they are
pub record Supply : Type 0 where
  pub instructions : List Instruction
  pub count : ℕ

abbrev pub is_modified : Selector → Entry → Bool
is_modified w e = modifies w (entry_of e)

-- one for each entry that it modifies
abbrev pub wanted : Selector → List Entry → ℕ
wanted w entries = count_by (is_modified w) entries

abbrev pub wanted_in : Selector → ℕ → Numbered → ℕ
wanted_in w k t = if is_in w.table k then wanted w t.entries else 0

abbrev pub wanted_from : Selector → ℕ → List Numbered → ℕ
wanted_from w k [] = 0
wanted_from w k (t ∷ ts) = wanted_in w k t + wanted_from w (suc k) ts
