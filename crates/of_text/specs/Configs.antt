-- CONFIGURATIONS: groups in ascending order of number, and the flows of sixteen tables, oldest first (OpenFlow 1.3.5, 5.1, 5.2 and 5.6).
use Rattle.std.specs.Prelude.{◌≡◌, ℕ, suc, zero, ◌++◌, List, [], ◌∷◌, None, map, slice_set, slice_index_or}
use Rattle.std.specs.{List.flat_map, Global.Vec}
use Rattle.of_text.specs.{declared.flow.FlowText.FlowText, declared.group.GroupText.GroupText, Groups.TextGroup, Flows.Flow, Flows.text_rows}
use Rattle.of_text.specs.{Texts.EncodeItems, Texts.AreRows, Texts.groups_and_flows_text, Views.view_flows, Views.view_groups, First.flows_for, First.first_refusal}

-- n tables, from this one on, each with its flows, in their order
abbrev pub tables_from : ℕ → ℕ → List Flow → List (List Flow)
tables_from zero table flows = []
tables_from (suc n) table flows = flows_for table flows ∷ tables_from n (suc table) flows

unfoldable pub tables_of_flows : List Flow → List (List Flow)
tables_of_flows flows = tables_from 16 0 flows

-- one more flow, after those of its table
abbrev pub with_flow_in_table : Flow → List (List Flow) → List (List Flow)
with_flow_in_table f tables = slice_set tables f.head.table (slice_index_or tables f.head.table [] ++ f ∷ [])

pub record Configuration : Type 0 where
  pub groups : List TextGroup
  pub tables : List (List Flow)

-- A CONFIGURATION: groups, and tables that are filled by flows, of which none is refused, and which are in order
pub record IsConfig (c : Configuration) : Type 0 where
  pub flows : List Flow
  pub rows : AreRows (text_rows c.groups flows)
  pub stand : first_refusal c.groups flows ≡ None
  pub filled : c.tables ≡ tables_of_flows flows

-- THE LINES ENCODE THE CONFIGURATION: they encode its groups and flows, none of which is refused, and each flow is in its table, after those that come before it
pub record EncodeConfig (lines : List (List ℕ)) (c : Configuration) : Type 0 where
  pub flows : List Flow
  pub encoded : EncodeItems lines c.groups flows
  pub stand : first_refusal c.groups flows ≡ None
  pub filled : c.tables ≡ tables_of_flows flows

-- the flows, table by table
abbrev pub all_flows : List (List Flow) → List Flow
all_flows tables = flat_map (λ flows. flows) tables

-- THE CANONICAL TEXT: the groups in ascending order of number, then the flows by table, and in a table the oldest first
abbrev pub config_text : Configuration → List ℕ
config_text c = groups_and_flows_text c.groups (all_flows c.tables)

-- ---- as they lie in memory

abbrev pub view_table : Vec FlowText → List Flow
view_table flows = view_flows flows.items

abbrev pub view_tables : List (Vec FlowText) → List (List Flow)
view_tables tables = map view_table tables

abbrev pub view_config : Vec GroupText → Vec (Vec FlowText) → Configuration
view_config groups tables = record { groups = view_groups groups.items; tables = view_tables tables.items }
