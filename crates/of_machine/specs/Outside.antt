-- The actions of a PACKET_OUT.
use Rattle.std.specs.Prelude.{Bool, false, ◌==◌}
use Rattle.of_wire.specs.declared.limits.TheConstants.{OFPP_TABLE}
use Rattle.of_actions.specs.{declared.action.Action.Action, declared.action.Action.TheVariants.Output}

-- an OUTPUT to OFPP_TABLE
abbrev pub is_to_tables : Action → Bool
is_to_tables (Output port max_len) = port == OFPP_TABLE
is_to_tables other = false
