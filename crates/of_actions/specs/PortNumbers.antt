-- Numbers of ports (OpenFlow 1.3.5, 7.2.1).
use Rattle.std.specs.Prelude.{ℕ, ◌==◌, nat_le, Bool, ◌&&◌, ◌||◌}
use Rattle.of_wire.specs.declared.limits.TheConstants.{OFPP_MAX, OFPP_IN_PORT, OFPP_TABLE, OFPP_FLOOD, OFPP_ALL, OFPP_CONTROLLER}

-- the number of a port of the switch: 1 to OFPP_MAX
abbrev pub is_number : ℕ → Bool
is_number port = nat_le 1 port && nat_le port OFPP_MAX

-- a port that an OUTPUT may name; OFPP_TABLE in a PACKET_OUT alone
abbrev pub is_port : Bool → ℕ → Bool
is_port packet_out port = is_number port || (port == OFPP_IN_PORT) || (port == OFPP_FLOOD) || (port == OFPP_ALL) || (port == OFPP_CONTROLLER) || (packet_out && (port == OFPP_TABLE))
