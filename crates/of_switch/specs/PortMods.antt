-- Why a PORT_MOD is refused, by the ports that exist (OpenFlow 1.3.5, 7.3.4.3 and 7.4.4).
use Rattle.std.specs.Prelude.{Bool, false, not, List, [], ◌∷◌}
use Rattle.std.specs.{Option.is_some, Option.option_map_or, Str.bytes_eq}
use Rattle.of_wire.specs.{declared.codes.TheConstants.OFPPMFC_BAD_HW_ADDR, declared.codes.TheConstants.OFPPMFC_BAD_PORT, declared.code.Code.Code}
use Rattle.of_messages.specs.declared.port_mod.PortMod.{PortMod}
use Rattle.of_ports.specs.{declared.port.Port.Port, Config.configured, Ports.port_at, Ports.with_config}

-- the port exists, with another hardware address
abbrev pub has_other_address : PortMod → List Port → Bool
has_other_address m ports = option_map_or (λ p. not (bytes_eq p.hw m.hw)) (port_at ports m.port) false

-- there is no such port (7/0, BAD_PORT); it has another hardware address (7/1, BAD_HW_ADDR)
abbrev pub port_mod_refusals : PortMod → List Port → List (Bool × Code)
port_mod_refusals m ports = (not (is_some (port_at ports m.port)), OFPPMFC_BAD_PORT) ∷ (has_other_address m ports, OFPPMFC_BAD_HW_ADDR) ∷ []

-- the bits of the configuration under the mask are those of the message, and the others stay
abbrev pub modified_port : PortMod → Port → Port
modified_port m p = with_config (configured m.config m.mask p.config) p
