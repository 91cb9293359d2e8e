-- Supported actions: those that some bytes encode, in a PACKET_OUT or in an instruction (OpenFlow 1.3.5, 5.12 and 7.2.5).
use Rattle.std.specs.Prelude.{nat_lt, nat_le, Bool, true, ◌&&◌, List, length}
use Rattle.std.specs.List.{list_all}
use Rattle.of_layers.specs.{Fields.is_settable, Fields.ones_of, Reading.is_tag_type}
use Rattle.of_actions.specs.declared.argument.Argument.TheVariants.{Nothing, Byte, Tag, Word, Port, Field}
use Rattle.of_actions.specs.{declared.action.Action.Action, declared.argument.Argument.Argument, Rows.said, PortNumbers.is_port}

-- numbers fit their bytes, ports may be named, a tag has one of the two types, a field may be set and its value fits it
abbrev pub is_allowed : Bool → Argument → Bool
is_allowed packet_out Nothing = true
is_allowed packet_out (Byte n) = nat_lt n 0x100
is_allowed packet_out (Tag n) = is_tag_type n
is_allowed packet_out (Word n) = nat_lt n 0x100000000
is_allowed packet_out (Port port max_len) = is_port packet_out port && nat_lt max_len 0x10000
is_allowed packet_out (Field f value) = is_settable f && nat_le value (ones_of f)

unfoldable pub is_supported : Bool → Action → Bool
is_supported packet_out a = is_allowed packet_out (said a).1

-- at most 64 of them
abbrev pub are_supported : Bool → List Action → Bool
are_supported packet_out actions = nat_le (length actions) 64 && list_all (is_supported packet_out) actions
