-- THE FINDINGS of a switch: one verdict on each entry, by table, then by age.
use Rattle.std.specs.Prelude.{◌≡◌, ℕ, zero, suc, List, [], ◌∷◌, ◌++◌, length, map}
use Rattle.std.specs.List.{Contains}
use Rattle.of_table.specs.Tables.{Tables, table_at}
use Rattle.of_check.specs.{declared.finding.Finding.Finding, Verdicts.VerdictHolds}

-- an entry is named by its table, and its place there by age
abbrev pub found_entry : Finding → ℕ × ℕ
found_entry f = (f.table, f.place)

-- the first n entries of a table
abbrev pub first_entries : ℕ → ℕ → List (ℕ × ℕ)
first_entries table zero = []
first_entries table (suc n) = first_entries table n ++ (table, n) ∷ []

-- those of the first k tables
unfoldable pub entries_below : ℕ → Tables → List (ℕ × ℕ)
entries_below zero ts = []
entries_below (suc k) ts = entries_below k ts ++ first_entries k (length (table_at k ts).flows)

-- one verdict on each of these entries, in their order, after so many steps at most, and each holds
pub record AreFindings (entries : List (ℕ × ℕ)) (ts : Tables) (steps : ℕ) (findings : List Finding) : Type 0 where
  pub each : map found_entry findings ≡ entries
  pub hold : (f : Finding) → Contains findings f → VerdictHolds (table_at f.table ts).flows f.place steps f.verdict

-- the sixteen tables
abbrev pub Checks : Tables → ℕ → List Finding → Type 0
Checks ts steps findings = AreFindings (entries_below 16 ts) ts steps findings
