-- Invariants that join a switch's flow tables and its groups (OpenFlow 1.3.5, 5.6, 6.4 and 6.5).
use Rattle.std.specs.Prelude.{nat_le, Bool, not, List, IsTrue}
use Rattle.std.specs.List.{list_all}
use Rattle.of_wire.specs.declared.limits.TheConstants.{OFPG_MAX}
use Rattle.of_groups.specs.declared.group.Group.{Group}
use Rattle.of_table.specs.Table.{FlowEntry, Table}
use Rattle.of_datapath.specs.{Commands.names_absent_group, Datapath.Forwarding}

-- each group to which an action of the entry sends packets exists
abbrev pub names_existing_groups : List Group → FlowEntry → Bool
names_existing_groups groups e = not (names_absent_group groups e.flow.instructions)

abbrev pub all_name_existing_groups : List Group → Table → Bool
all_name_existing_groups groups t = list_all (names_existing_groups groups) t.flows

-- no group has a higher number than OFPG_MAX
abbrev pub is_numbered : Group → Bool
is_numbered g = nat_le g.id OFPG_MAX

-- EACH GROUP THAT AN ENTRY NAMES EXISTS, and no group has a number above OFPG_MAX
pub record GroupsExist (f : Forwarding) : Type 0 where
  pub entries : IsTrue (list_all (all_name_existing_groups f.groups) f.tables.tables)
  pub numbers : IsTrue (list_all is_numbered f.groups)
