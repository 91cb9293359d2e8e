-- What the machine reads of its world: the flow tables, the groups and the ports (OpenFlow 1.3.5, 2).
use Rattle.std.specs.Prelude.{ℕ, List, Option}
use Rattle.of_layers.specs.declared.field.Field.{Field}
use Rattle.of_actions.specs.declared.action.Action.{Action}
use Rattle.of_table.specs.declared.flow.Flow.{Flow}
use Rattle.of_ports.specs.declared.port.Port.{Port}

pub record TheWorld : Type 0 where
  -- the number of the entry of a table that wins for a field map (5.3)
  pub winner : ℕ → (Field → Option ℕ) → Option ℕ
  -- the entry of a table that has a number
  pub flow : ℕ → ℕ → Option Flow
  -- the places of the buckets of a group that run, where the group exists (5.6)
  pub chosen : ℕ → Option (List ℕ)
  -- the actions of a bucket, by its group and its place
  pub bucket : ℕ → ℕ → Option (List Action)
  -- the ports, in ascending order of number
  pub ports : List Port
  -- how many groups the longest chain that begins at a group has: no row reads it
  pub chain : ℕ → ℕ
