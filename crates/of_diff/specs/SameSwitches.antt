-- SWITCHES THAT SAY THE SAME: the same ports, groups and entries, whose counters, times and flags treat no packet otherwise (OpenFlow 1.3.5, 5.2, 5.6 and 7.2.1).
use Rattle.std.specs.Prelude.{◌≡◌, ℕ, [], Option, Some, None}
use Rattle.of_table.specs.Tables.{table_at}
use Rattle.of_datapath.specs.Datapath.{Forwarding}
use Rattle.of_alike.specs.{SameGroups.SameGroups, SamePorts.SamePorts, SameTables.SameTables}
use Rattle.of_diff.specs.{declared.agreement.Agreement.Agreement, declared.difference.Differences.Differences}

pub record AreSameSwitches (f g : Forwarding) : Type 0 where
  pub ports : SamePorts f.ports g.ports
  pub groups : SameGroups f.groups g.groups
  pub tables : (t : ℕ) → SameTables (table_at t f.tables).flows (table_at t g.tables).flows

-- no frame is treated otherwise, and none is undecided
abbrev pub IsNothing : Option Differences → Type 0
IsNothing None = ⊥
IsNothing (Some ds) = (ds.found.items ≡ []) × (ds.undecided.items ≡ [])

-- For contracts inside this crate: all tables do the same.
abbrev pub AgreeInAll : Option Agreement → Type 0
AgreeInAll None = ⊥
AgreeInAll (Some a) = a.from ≡ 0
