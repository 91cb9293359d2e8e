-- NAMES: what the standard calls the types of messages and other numbers, from tables of the code: each is a list of words from number 0 on.
use Rattle.std.specs.Prelude.{ℕ, List, decimal, Option, Some, None}
use Rattle.of_wire.specs.Parts.{nth_part}
use Rattle.of_formats.specs.Messages.{message_name}
use Rattle.of_explain.specs.declared.names.Names.TheVariants.{Types, ErrorTypes, PacketInReasons, FlowRemovedReasons, PortStatusReasons, FlowCommands, GroupCommands, GroupTypes, Multiparts, Roles}
use Rattle.of_explain.specs.declared.names.Names.{Names}
use Rattle.of_explain.specs.declared.names.TheConstants as words

unfoldable pub name_for : Names → ℕ → Option (List ℕ)
name_for Types n = message_name n
name_for ErrorTypes n = nth_part 32 n words.ERROR_TYPES
name_for PacketInReasons n = nth_part 32 n words.PACKET_IN_REASONS
name_for FlowRemovedReasons n = nth_part 32 n words.FLOW_REMOVED_REASONS
name_for PortStatusReasons n = nth_part 32 n words.PORT_STATUS_REASONS
name_for FlowCommands n = nth_part 32 n words.FLOW_COMMANDS
name_for GroupCommands n = nth_part 32 n words.GROUP_COMMANDS
name_for GroupTypes n = nth_part 32 n words.GROUP_TYPES
name_for Multiparts n = nth_part 32 n words.MULTIPARTS
name_for Roles n = nth_part 32 n words.ROLES

-- a name, or the number where there is none
abbrev pub name_or_number : Option (List ℕ) → ℕ → List ℕ
name_or_number None n = decimal n
name_or_number (Some name) n = name

abbrev pub name_in : Names → ℕ → List ℕ
name_in names n = name_or_number (name_for names n) n
