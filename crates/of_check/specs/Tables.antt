-- THE TABLES OF A CONFIGURATION: which of them packets come to, and which have a table-miss flow entry (OpenFlow 1.3.5, 5.1, 5.4 and 5.9).
use Rattle.std.specs.Prelude.{◌≡◌, ℕ, zero, suc, ◌==◌, Bool, true, false, ◌&&◌, ◌||◌, List, [], ◌∷◌, ◌++◌, length, slice_index_or, if◌then◌else◌}
use Rattle.std.specs.List.{list_any}
use Rattle.of_text.specs.Flows.{Flow, goes_to}

-- the flow entries of a table
abbrev pub flows_at : List (List Flow) → ℕ → List Flow
flows_at tables table = slice_index_or tables table []

-- some entry of one table goes on at the other
abbrev pub leads_to_table : List (List Flow) → ℕ → ℕ → Bool
leads_to_table tables from to = list_any (λ f. list_any (goes_to to) f.instructions) (flows_at tables from)

-- each of these tables leads to the next, and the last is the one asked for
abbrev pub is_way : List (List Flow) → ℕ → List ℕ → ℕ → Bool
is_way tables from [] to = from == to
is_way tables from (next ∷ others) to = leads_to_table tables from next && is_way tables next others to

-- A TABLE THAT PACKETS COME TO: some way leads there from table 0
abbrev pub IsReached : List (List Flow) → ℕ → Type 0
IsReached tables table = (way : List ℕ) × (is_way tables 0 way table ≡ true)

-- ---- the same, as it is computed: GOTO_TABLE leads to later tables alone (5.9)

abbrev pub is_led_to : List (List Flow) → List ℕ → ℕ → Bool
is_led_to tables froms to = (to == 0) || list_any (λ from. leads_to_table tables from to) froms

-- those of the first k tables
unfoldable pub reached_below : List (List Flow) → ℕ → List ℕ
reached_below tables zero = []
reached_below tables (suc k) = if is_led_to tables (reached_below tables k) k then reached_below tables k ++ k ∷ [] else reached_below tables k

abbrev pub is_reached : List (List Flow) → ℕ → Bool
is_reached tables table = list_any (λ n. n == table) (reached_below tables 16)

-- ---- entries

-- THE TABLE-MISS FLOW ENTRY has priority 0 and matches each packet (5.4)
abbrev pub is_table_miss_flow : Flow → Bool
is_table_miss_flow f = (f.head.priority == 0) && (length f.fields == 0)

abbrev pub is_empty : {A : Type 0} → List A → Bool
is_empty [] = true
is_empty (x ∷ xs) = false
