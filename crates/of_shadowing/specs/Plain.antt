-- FLOWS WITHOUT CONDITIONS, as the entries of a table.
use Rattle.std.specs.Prelude.{◌≡◌, ℕ, List, [], Some, slice_get}
use Rattle.of_table.specs.Table.{FlowEntry}
use Rattle.of_shadowing.specs.declared.listed_flow.ListedFlow.{ListedFlow}

-- of that table, with the priority and the match of the entry, and without words
pub record IsPlain (table : ℕ) (e : FlowEntry) (f : ListedFlow) : Type 0 where
  pub table_is : f.table ≡ table
  pub priority : f.priority ≡ e.flow.priority
  pub fields : f.fields ≡ e.flow.fields
  pub words : f.words.items ≡ []

-- one flow for each entry of a table, in their order
pub record ArePlain (table : ℕ) (entries : List FlowEntry) (flows : List ListedFlow) : Type 0 where
  pub flow : (k : ℕ) (e : FlowEntry) → slice_get entries k ≡ Some e → (f : ListedFlow) × (slice_get flows k ≡ Some f) × IsPlain table e f
  pub entry : (k : ℕ) (f : ListedFlow) → slice_get flows k ≡ Some f → (e : FlowEntry) × (slice_get entries k ≡ Some e) × IsPlain table e f
