-- WHICH TABLES ACTIONS LEAD TO from table 0. (A controller may send packets to other tables, too.)
use Rattle.std.specs.Prelude.{◌≡◌, ◌↔◌, ℕ, ◌==◌, ◌&&◌, ◌||◌, not, Bool, true, false, List, [], ◌∷◌, ◌++◌, if◌then◌else◌}
use Rattle.std.specs.List.{fold, list_any}
use Rattle.of_shadowing.specs.declared.listed_flow.ListedFlow.{ListedFlow}

abbrev pub is_table_among : List ℕ → ℕ → Bool
is_table_among tables table = list_any (λ t. t == table) tables

-- some flow of the table
abbrev pub has_flow : List ListedFlow → ℕ → Bool
has_flow flows table = list_any (λ f. f.table == table) flows

-- some flow of one table leads to the other
abbrev pub leads_from_to : List ListedFlow → ℕ → ℕ → Bool
leads_from_to flows from to = list_any (λ f. f.table == from && is_table_among f.leads.tables.items to) flows

pub data IsTableReached (flows : List ListedFlow) : ℕ → Type 0 where
  First : IsTableReached flows 0
  Later : (from to : ℕ) → IsTableReached flows from → leads_from_to flows from to ≡ true → IsTableReached flows to

-- some actions may lead anywhere; or the file is a part of the tables, without table 0
abbrev pub leaves_open : List ListedFlow → Bool
leaves_open flows = list_any (λ f. f.leads.anywhere) flows || not (has_flow flows 0)

-- THE UNREACHABLE TABLES: they have flows, and no actions lead there; none where that is open
abbrev pub AreUnreachable : List ListedFlow → List ℕ → Type 0
AreUnreachable flows tables = (t : ℕ) → (is_table_among tables t ≡ true) ↔ ((leaves_open flows ≡ false) × (has_flow flows t ≡ true) × ¬ (IsTableReached flows t))

-- ---- the same, as it is computed: of the tables behind table 0, one after the other is reached from those that are not among the rest

abbrev pub with_table_of : List ℕ → ListedFlow → List ℕ
with_table_of tables f = if f.table == 0 || is_table_among tables f.table then tables else tables ++ f.table ∷ []

abbrev pub later_tables : List ListedFlow → List ℕ
later_tables flows = fold with_table_of [] flows

unfoldable pub leads_from_others : List ℕ → ℕ → ListedFlow → Bool
leads_from_others tables to f = not (is_table_among tables f.table) && is_table_among f.leads.tables.items to

abbrev pub is_led_from_others : List ListedFlow → List ℕ → ℕ → Bool
is_led_from_others flows tables to = list_any (leads_from_others tables to) flows
