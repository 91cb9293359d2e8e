-- Which messages some bytes encode, as tests: their numbers are such as the standard allows (OpenFlow 1.3.5, 7).
use Rattle.std.specs.Prelude.{ℕ, ◌==◌, nat_lt, nat_le, Bool, true, false, not, ◌&&◌, List, [], ◌∷◌, length, bit_and, Option, Some, None, is_none}
use Rattle.std.specs.List.{list_all}
use Rattle.of_wire.specs.declared.limits.TheConstants.{OFPG_ALL, OFPG_MAX, OFPP_ANY, OFP_NO_BUFFER}
use Rattle.of_headers.specs.Faults.{frame_fault}
use Rattle.of_actions.specs.{FlowCheck.all_go_with, InstructionLists.are_for, declared.instruction.Instruction.Instruction}
use Rattle.of_groups.specs.declared.bucket.Bucket.{Bucket}
use Rattle.of_messages.specs.declared.message.Message.TheVariants.{EchoRequest, PacketOut as IsPacketOut, FlowMod as IsFlowMod, GroupMod as IsGroupMod, PortMod as IsPortMod, TableMod as IsTableMod, Multipart}
use Rattle.of_messages.specs.{Configs.names_table, Messages.is_delete, Messages.is_ingress, declared.group_mod.GroupMod.GroupMod, declared.group_mod.NewGroup.NewGroup}
use Rattle.of_messages.specs.{declared.message.FlowMod.FlowMod, declared.message.Message.Message, declared.message.PacketData.PacketData}
use Rattle.of_messages.specs.{declared.message.PacketData.TheVariants.Buffered, declared.message.PacketData.TheVariants.Frame, declared.multipart.MultipartRequest.MultipartRequest}
use Rattle.of_messages.specs.declared.multipart.MultipartRequest.TheVariants.{Flow, Aggregate, PortStats, Group}
use Rattle.of_messages.specs.declared.group_mod.GroupMod.TheVariants as group

-- a held packet has a number, and a frame 14 to 9,216 bytes
abbrev pub is_sound_packet : PacketData → Bool
is_sound_packet (Buffered number) = not (number == OFP_NO_BUFFER)
is_sound_packet (Frame frame) = is_none (frame_fault frame)

abbrev pub has_no_instructions : List Instruction → Bool
has_no_instructions [] = true
has_no_instructions (i ∷ is) = false

-- the two DELETE commands may name all tables, and have no instructions
abbrev pub is_sound_command : Bool → FlowMod → Bool
is_sound_command true m = names_table m.table && has_no_instructions m.instructions
is_sound_command false m = nat_lt m.table 16 && are_for m.table m.instructions

abbrev pub is_sound_flow_mod : FlowMod → Bool
is_sound_flow_mod m = is_sound_command (is_delete m.command) m && nat_lt m.flags 32 && all_go_with m.fields m.instructions

-- a message does not carry what a bucket has counted
abbrev pub counts_nothing : Bucket → Bool
counts_nothing b = (b.packets == 0) && (b.bytes == 0)

abbrev pub is_sound_group : NewGroup → Bool
is_sound_group g = nat_le g.id OFPG_MAX && list_all counts_nothing g.buckets

abbrev pub is_sound_number : Option ℕ → Bool
is_sound_number None = true
is_sound_number (Some number) = nat_le number OFPG_MAX

abbrev pub is_sound_group_mod : GroupMod → Bool
is_sound_group_mod (group.Add g) = is_sound_group g
is_sound_group_mod (group.Modify g) = is_sound_group g
is_sound_group_mod (group.Delete which) = is_sound_number which

-- one port or group, and not the number that stands for all
abbrev pub is_one : ℕ → Option ℕ → Bool
is_one all None = true
is_one all (Some number) = not (number == all)

abbrev pub is_sound_request : MultipartRequest → Bool
is_sound_request (Flow r) = names_table r.table
is_sound_request (Aggregate r) = names_table r.table
is_sound_request (PortStats port) = is_one OFPP_ANY port
is_sound_request (Group group) = is_one OFPG_ALL group
is_sound_request other = true

-- an ECHO_REQUEST has as many bytes as a header can count
abbrev pub is_sound : Message → Bool
is_sound (EchoRequest echoed) = nat_le (length echoed) 65527
is_sound (IsPacketOut m) = is_ingress m.in_port && is_sound_packet m.packet
is_sound (IsFlowMod m) = is_sound_flow_mod m
is_sound (IsGroupMod m) = is_sound_group_mod m
is_sound (IsPortMod m) = bit_and m.mask 101 == m.mask
is_sound (IsTableMod m) = names_table m.table
is_sound (Multipart request) = is_sound_request request
is_sound other = true
