-- What holds for each message that was read, beyond its fields.
use Rattle.std.specs.Prelude.{◌≡◌, ◌<◌, ◌≤◌, false, true, length, None, ⊤}
use Rattle.of_wire.specs.declared.limits.TheConstants.{OFPG_MAX}
use Rattle.of_actions.specs.{InstructionLists.are_for, FlowCheck.all_go_with}
use Rattle.of_headers.specs.Faults.{frame_fault}
use Rattle.of_messages.specs.declared.message.Message.TheVariants.{EchoRequest, PacketOut as IsPacketOut, FlowMod as IsFlowMod, GroupMod as IsGroupMod, Multipart}
use Rattle.of_messages.specs.{declared.message.Message.Message, declared.message.FlowMod.FlowMod, declared.group_mod.GroupMod.GroupMod}
use Rattle.of_messages.specs.declared.group_mod.GroupMod.TheVariants.{Add, Modify, Delete}
use Rattle.of_messages.specs.{declared.message.PacketData.PacketData, declared.message.PacketData.TheVariants.Buffered, declared.message.PacketData.TheVariants.Frame, Messages.is_delete}
use Rattle.of_messages.specs.Multiparts.{IsSoundRequest}

-- an ADD or a MODIFY names a table, its instructions are valid there, and its set-field actions have their prerequisites in the match
pub record IsSoundFlowMod (m : FlowMod) : Type 0 where
  pub table : is_delete m.command ≡ false → m.table < 16
  pub fit : are_for m.table m.instructions ≡ true
  pub checked : all_go_with m.fields m.instructions ≡ true

-- a frame of 14 to 9,216 bytes
abbrev pub IsSoundPacket : PacketData → Type 0
IsSoundPacket (Buffered number) = ⊤
IsSoundPacket (Frame bytes) = frame_fault bytes ≡ None

-- a group that is added or modified has a number up to OFPG_MAX
abbrev pub IsSoundGroupMod : GroupMod → Type 0
IsSoundGroupMod (Add g) = g.id ≤ OFPG_MAX
IsSoundGroupMod (Modify g) = g.id ≤ OFPG_MAX
IsSoundGroupMod (Delete which) = ⊤

-- an ECHO_REQUEST was a message itself, so its data fits one
abbrev pub IsSoundMessage : Message → Type 0
IsSoundMessage (EchoRequest echoed) = length echoed ≤ 65527
IsSoundMessage (IsPacketOut m) = IsSoundPacket m.packet
IsSoundMessage (IsFlowMod m) = IsSoundFlowMod m
IsSoundMessage (IsGroupMod m) = IsSoundGroupMod m
IsSoundMessage (Multipart request) = IsSoundRequest request
IsSoundMessage other = ⊤
