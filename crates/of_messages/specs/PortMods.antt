-- PORT_MOD (OpenFlow 1.3.5, 7.3.4.3): the port with its hardware address, and the bits of its configuration under a mask.
use Rattle.std.specs.Prelude.{ℕ, ◌==◌, bit_and, List, [], ◌∷◌, Result, Ok, Err, if◌then◌else◌}
use Rattle.of_wire.specs.{declared.codes.TheConstants.OFPBRC_BAD_LEN, declared.codes.TheConstants.OFPPMFC_BAD_CONFIG, declared.code.Code.Code}
use Rattle.of_messages.specs.declared.port_mod.PortMod.{PortMod}
use Rattle.of_formats.specs.Structs.{numbers, texts}
use Rattle.of_formats.specs.Tables as tables

-- OFPPC_PORT_DOWN, OFPPC_NO_RECV, OFPPC_NO_FWD and OFPPC_NO_PACKET_IN, 1, 4, 32 and 64
abbrev pub known_bits : ℕ
known_bits = 101

-- OFPPMFC_BAD_CONFIG for a mask with another bit
abbrev pub port_mod_by : List ℕ → List (List ℕ) → Result PortMod Code
port_mod_by (port ∷ config ∷ mask ∷ []) (hw ∷ []) =
    if bit_and mask known_bits == mask
    then Ok (record { port = port; hw = hw; config = config; mask = mask })
    else Err OFPPMFC_BAD_CONFIG
port_mod_by other hw = Err OFPBRC_BAD_LEN

abbrev pub port_mod_of : List ℕ → Result PortMod Code
port_mod_of m = port_mod_by (numbers tables.port_mod 8 m) (texts tables.port_mod 8 m)
