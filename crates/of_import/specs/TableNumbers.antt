-- NEW NUMBERS OF TABLES: those that occur, as the table of a flow or of GOTO_TABLE, get the numbers from 0 on, in their order.
use Rattle.std.specs.Prelude.{ℕ, suc, zero, ◌+◌, ◌==◌, ◌&&◌, ◌||◌, not, min, Bool, List, [], ◌∷◌, ◌++◌, if◌then◌else◌}
use Rattle.std.specs.List.{list_any}
use Rattle.of_text.specs.Flows.{Flow as TextFlow, goes_to}
use Rattle.of_import.specs.ParsedLines.{FlowAt}

abbrev pub concerns_table : ℕ → TextFlow → Bool
concerns_table table f = f.head.table == table || list_any (goes_to table) f.instructions

abbrev pub occurs : List FlowAt → ℕ → Bool
occurs fs table = list_any (λ f. concerns_table table f.flow) fs

-- the number after that of a table (numbers beyond 255 are not told apart, since more than 16 are refused)
abbrev pub following_number : List FlowAt → ℕ → ℕ → ℕ
following_number fs table next = if occurs fs table then min 255 (next + 1) else next

-- the numbers of that many tables, from this table and this number on
unfoldable pub table_numbers_from : List FlowAt → ℕ → ℕ → ℕ → List ℕ
table_numbers_from fs zero table next = []
table_numbers_from fs (suc n) table next = next ∷ table_numbers_from fs n (table + 1) (following_number fs table next)

unfoldable pub count_from : List FlowAt → ℕ → ℕ → ℕ → ℕ
count_from fs zero table next = next
count_from fs (suc n) table next = count_from fs n (table + 1) (following_number fs table next)

-- tables that get another number
abbrev pub move_of : List FlowAt → ℕ → ℕ → List (ℕ × ℕ)
move_of fs table next = if occurs fs table && not (table == next) then (table, next) ∷ [] else []

unfoldable pub moves_from : List FlowAt → ℕ → ℕ → ℕ → List (ℕ × ℕ)
moves_from fs zero table next = []
moves_from fs (suc n) table next = move_of fs table next ++ moves_from fs n (table + 1) (following_number fs table next)

-- THE NUMBERS of the tables 0 to 255, which tables get another number, and how many tables there are
pub record TableNumbers : Type 0 where
  pub numbers : List ℕ
  pub moves : List (ℕ × ℕ)
  pub count : ℕ

abbrev pub same_numbers : TableNumbers
same_numbers = record { numbers = []; moves = []; count = 0 }

unfoldable pub table_numbers_of : List FlowAt → TableNumbers
table_numbers_of fs = record { numbers = table_numbers_from fs 256 0 0; moves = moves_from fs 256 0 0; count = count_from fs 256 0 0 }
