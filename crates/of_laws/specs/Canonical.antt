-- The one encoding of each message of a controller that is written (OpenFlow 1.3.5, 7): its fields, with zeros for padding and for what is ignored, and then its match, actions, instructions or buckets in theirs.
use Rattle.std.specs.Prelude.{ℕ, List, [], ◌∷◌, ◌++◌, length, drop}
use Rattle.of_oxm.specs.Canonical.{canonical as canonical_match}
use Rattle.of_actions.specs.{CanonicalActions.canonical_actions, CanonicalInstructions.canonical_instructions}
use Rattle.of_messages.specs.declared.message.Message.TheVariants.{EchoRequest, PacketOut as IsPacketOut, FlowMod as IsFlowMod, GroupMod as IsGroupMod, Multipart}
use Rattle.of_messages.specs.{CanonicalGroups.canonical_buckets, Written.message, declared.message.Message.Message, declared.message.PacketData.PacketData}
use Rattle.of_messages.specs.declared.message.PacketData.TheVariants.{Buffered, Frame}
use Rattle.of_messages.specs.declared.multipart.MultipartRequest.TheVariants.{Flow, Aggregate}
use Rattle.of_messages.specs.declared.group_mod.GroupMod.TheVariants as group
use Rattle.of_formats.specs.Tables as tables
use Rattle.of_laws.specs.{Cells.canonical_cells, Grammar.type, Grammar.message_cells, StructCells.cells_of}

-- nothing follows the actions where the packet is held by the switch
abbrev pub packet_data_bytes : PacketData → List ℕ
packet_data_bytes (Buffered number) = []
packet_data_bytes (Frame frame) = frame

-- what follows the fields: the length of the actions stands before them, and of the kinds whose content is not kept (HELLO, ERROR and ECHO_REPLY) there is nothing
abbrev pub canonical_tail : Message → List ℕ
canonical_tail (EchoRequest echoed) = echoed
canonical_tail (IsPacketOut m) = canonical_cells (cells_of (drop 2 tables.packet_out) (length (canonical_actions m.actions) ∷ []) []) ++ (canonical_actions m.actions ++ packet_data_bytes m.packet)
canonical_tail (IsFlowMod m) = canonical_match m.fields ++ canonical_instructions m.instructions
canonical_tail (IsGroupMod (group.Add g)) = canonical_buckets g.buckets
canonical_tail (IsGroupMod (group.Modify g)) = canonical_buckets g.buckets
canonical_tail (Multipart (Flow r)) = canonical_match r.fields
canonical_tail (Multipart (Aggregate r)) = canonical_match r.fields
canonical_tail other = []

-- version 4, type, length, transaction id, and then these
unfoldable pub canonical_message : ℕ → Message → List ℕ
canonical_message xid m = message (type m) xid (canonical_cells (message_cells m) ++ canonical_tail m)
