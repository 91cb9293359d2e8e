-- CONFIGURATIONS of a switch: loaded, and told (OpenFlow 1.3.5, 5.1, 5.2 and 5.6).
use Rattle.of_text.specs.{Groups.groups_at, Configs.Configuration}
use Rattle.of_datapath.specs.Loading.{configuration_of, loaded_tables}
use Rattle.of_switch.specs.{Steps.core_with_groups, Steps.with_tables, State.Core, State.State}

-- the groups and the tables are replaced, and all else of the core stays
abbrev pub loaded_core : Configuration → Core → Core
loaded_core c k =
    let now = k.forwarding.tables.latest in
    core_with_groups (groups_at now c.groups) (with_tables (loaded_tables now c.tables) k)

-- all else of the switch stays
abbrev pub loaded : Configuration → State → State
loaded c s = record s { core = loaded_core c s.core }

-- THE CONFIGURATION OF A SWITCH
abbrev pub config_of : State → Configuration
config_of s = configuration_of s.core.forwarding
