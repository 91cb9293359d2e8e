-- CONFIGURATIONS: the groups and the flow tables without counters and times (OpenFlow 1.3.5, 5.1, 5.2 and 5.6).
use Rattle.std.specs.Prelude.{ℕ, suc, List, [], ◌∷◌, map, None}
use Rattle.of_text.specs.{Flows.Flow as TextFlow, Groups.group_text, Configs.Configuration}
use Rattle.of_table.specs.Table.{FlowEntry, Table, kept_flags, with_flow, flags_number}
use Rattle.of_table.specs.{declared.flow.Flow.Flow, Tables.Tables}
use Rattle.of_datapath.specs.{Commands.flags_of, Datapath.Forwarding}

-- a flow of a text, whose flags are 1, 8 and 16 alone, as a FLOW_MOD would give it
abbrev pub loaded_flow : TextFlow → Flow
loaded_flow f = record { fields = f.fields; priority = f.head.priority; cookie = f.head.cookie; idle_timeout = f.head.idle; hard_timeout = f.head.hard; flags = kept_flags (flags_of f.head.flags); instructions = f.instructions }

-- LOADING: the flows become entries that are added now, and their counters and those of their tables are 0

abbrev pub loaded_entry : ℕ → TextFlow → FlowEntry
loaded_entry now f = with_flow now (loaded_flow f) None

abbrev pub loaded_table : ℕ → List TextFlow → Table
loaded_table now flows = record { lookups = 0; matched = 0; flows = map (loaded_entry now) flows }

abbrev pub loaded_tables : ℕ → List (List TextFlow) → Tables
loaded_tables now tables = record { tables = map (loaded_table now) tables; latest = now }

-- BACK TO A CONFIGURATION: the groups by number, and the entries of each table by age

abbrev pub flow_kept : ℕ → Flow → TextFlow
flow_kept table f = record {
  head = record { table = table; priority = f.priority; cookie = f.cookie; idle = f.idle_timeout; hard = f.hard_timeout; flags = flags_number f.flags };
  fields = f.fields;
  instructions = f.instructions;
}

abbrev pub entry_text : ℕ → FlowEntry → TextFlow
entry_text table e = flow_kept table e.flow

abbrev pub table_text : ℕ → Table → List TextFlow
table_text table t = map (entry_text table) t.flows

-- the tables, numbered from k on
abbrev pub texts_from : ℕ → List Table → List (List TextFlow)
texts_from k [] = []
texts_from k (t ∷ ts) = table_text k t ∷ texts_from (suc k) ts

abbrev pub configuration_of : Forwarding → Configuration
configuration_of f = record { groups = map group_text f.groups; tables = texts_from 0 f.tables.tables }
