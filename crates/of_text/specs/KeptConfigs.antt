-- CONFIGURATIONS AS A SWITCH KEEPS THEM: by the invariants of its groups and its flow tables (OpenFlow 1.3.5, 5.1, 5.2 and 5.6).
use Rattle.std.specs.Prelude.{◌≡◌, ℕ, suc, List, [], ◌∷◌, length}
use Rattle.std.specs.List.{AllByRecursion}
use Rattle.of_lines.specs.Rows.{HeadFits}
use Rattle.of_text.specs.{Groups.TextGroup, Flows.Flow, Kept.AllStandBehind, Kept.AreKeptGroups, Kept.IsEntry, Configs.Configuration}

-- a flow of the table, whose numbers are within their bounds
abbrev pub IsHeaded : ℕ → Flow → Type 0
IsHeaded table f = (f.head.table ≡ table) × HeadFits f.head

-- the flows of a table beside these groups: each is valid in it, after those before it
pub record AreKeptFlows (groups : List TextGroup) (table : ℕ) (flows : List Flow) : Type 0 where
  pub heads : AllByRecursion (IsHeaded table) flows
  pub entries : AllByRecursion (IsEntry table) flows
  pub stand : AllStandBehind groups [] flows

-- of the tables, numbered from k on
abbrev pub AreKeptTables : List TextGroup → ℕ → List (List Flow) → Type 0
AreKeptTables groups k [] = Unit {0}
AreKeptTables groups k (flows ∷ tables) = AreKeptFlows groups k flows × AreKeptTables groups (suc k) tables

pub record IsKeptConfig (c : Configuration) : Type 0 where
  pub groups : AreKeptGroups c.groups
  pub sixteen : length c.tables ≡ 16
  pub tables : AreKeptTables c.groups 0 c.tables
