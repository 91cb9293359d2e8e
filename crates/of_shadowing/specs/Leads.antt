-- WHERE ACTIONS LEAD (ovs-actions(7)): the numbers behind `goto_table`, behind `table=` as in `ct(table=N)`, and at the second place of `resubmit(PORT,N)`, also within other actions.
use Rattle.std.specs.Prelude.{ℕ, ◌==◌, ◌&&◌, ◌||◌, Bool, true, false, List, [], ◌∷◌, ◌++◌, length, codes, Option, Some, None, if◌then◌else◌}
use Rattle.std.specs.{List.fold, Str.str_eq_ignore_ascii_case}
use Rattle.of_ovs_words.specs.{Numbers.number_in, Words.is_gap, Words.word_name, Words.word_value}
use Rattle.of_shadowing.specs.{declared.leads.Next.Next, declared.leads.Next.TheVariants.Name, declared.leads.Next.TheVariants.Port, declared.leads.Next.TheVariants.Table}
use Rattle.of_shadowing.specs.declared.leads.Scan.{Scan as DeclaredScan}

-- the text is read piece by piece
pub record Scan : Type 0 where
  pub tables : List ℕ
  -- some action may lead to any table
  pub anywhere : Bool
  -- what the next piece is
  pub next : Next
  -- the bytes since the last separator
  pub piece : List ℕ

abbrev pub no_scan : Scan
no_scan = record { tables = []; anywhere = false; next = Name; piece = [] }

abbrev pub is_called : List ℕ → List ℕ → Bool
is_called name word = str_eq_ignore_ascii_case name word

abbrev pub led_to : Scan → Option ℕ → Scan
led_to s None = record s { anywhere = true; next = Name }
led_to s (Some n) = record s { tables = s.tables ++ n ∷ []; next = Name }

-- a number is that of a table, and a name may be that of any
abbrev pub with_table_led : Scan → List ℕ → Scan
with_table_led s digits = led_to s (number_in 255 digits)

abbrev pub with_table_if : Scan → List ℕ → Scan
with_table_if s digits = if length digits == 0 then record s { next = Table } else with_table_led s digits

-- the buckets of a group may lead anywhere
abbrev pub with_name : Scan → List ℕ → List ℕ → Scan
with_name s name value =
    if is_called name (codes "group") then record s { anywhere = true }
    else if is_called name (codes "resubmit") && length value == 0 then record s { next = Port }
    else if is_called name (codes "goto_table") || is_called name (codes "table") then with_table_if s value
    else s

abbrev pub with_next_piece : Scan → Next → List ℕ → Scan
with_next_piece s Name piece = with_name s (word_name piece) (word_value piece)
with_next_piece s Port piece = record s { next = Table }
with_next_piece s Table piece = with_table_led s piece

-- parentheses, a comma, white space
abbrev pub ends_piece : ℕ → Bool
ends_piece b = is_gap b || b == 40 || b == 41

abbrev pub piece_ended : Scan → Scan
piece_ended s = with_next_piece (record s { piece = [] }) s.next s.piece

abbrev pub with_byte : Scan → ℕ → Scan
with_byte s b = if ends_piece b then piece_ended s else record s { piece = s.piece ++ b ∷ [] }

-- ONE MORE ACTION: `learn` adds a flow to its table, and does not lead there
abbrev pub with_action_led : Scan → List ℕ → Scan
with_action_led s action = if is_called (word_name action) (codes "learn") then s else piece_ended (fold with_byte s action)

abbrev pub view_scan : DeclaredScan → Scan
view_scan s = record { tables = s.leads.tables.items; anywhere = s.leads.anywhere; next = s.next; piece = s.piece.items }
