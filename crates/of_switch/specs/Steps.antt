-- What each event does to the abstract switch.
use Rattle.std.specs.Prelude.{◌≡◌, ℕ, max, Bool, List, [], ◌∷◌, ◌++◌, map, take, Option, Some, None, if◌then◌else◌}
use Rattle.of_wire.specs.{declared.codes.TheConstants.OFPBRC_BAD_LEN, declared.codes.TheConstants.OFPHFC_INCOMPATIBLE, declared.code.Code.Code, Refusals.first_of}
use Rattle.of_messages.specs.declared.message.Message.TheVariants.{EchoRequest, FeaturesRequest, GetConfigRequest, SetConfig, BarrierRequest, FlowMod as IsFlowMod, PacketOut as IsPacketOut, GroupMod as IsGroupMod, PortMod as IsPortMod, Multipart, RoleRequest as IsRoleRequest, GetAsyncRequest, SetAsync}
use Rattle.of_messages.specs.Written.{hello_bytes, error_bytes, echo_reply_bytes, barrier_reply_bytes, features_reply_bytes, config_reply_bytes, role_reply_bytes, async_reply_bytes}
use Rattle.of_messages.specs.{declared.message.Message.Message, declared.message.PacketOut.PacketOut, declared.port_mod.PortMod.PortMod, declared.message.FlowMod.FlowMod}
use Rattle.of_messages.specs.{declared.group_mod.GroupMod.GroupMod, declared.role.RoleRequest.RoleRequest, declared.multipart.MultipartRequest.MultipartRequest}
use Rattle.of_messages.specs.{declared.async_masks.AsyncMasks.AsyncMasks, declared.config.SwitchConfig.SwitchConfig}
use Rattle.of_messages.specs.declared.port_mod.PortStatusReason.TheVariants as port
use Rattle.of_messages.specs.declared.group_mod.GroupMod.TheVariants as group_mod
use Rattle.of_session.specs.declared.session.Next.TheVariants.{Nothing, BadStream, NotHello, Opened, Read, Refused}
use Rattle.of_session.specs.Session.{Connection, alone, is_disconnected, greeting, with_received as fed_connection, entered, next_of_connection as next_in}
use Rattle.of_session.specs.declared.session.Next.{Next}
use Rattle.of_table.specs.Tables.{Tables, expired, expiry_notices, left_in, notices_in}
use Rattle.of_table.specs.declared.selection.Cause.TheVariants.{Group}
use Rattle.of_groups.specs.{declared.bucket.Bucket.Bucket, declared.group.Group.Group as AGroup, declared.group.GroupKind.GroupKind}
use Rattle.of_groups.specs.Groups.{groups_left, modified_group, new_group, with_group}
use Rattle.of_datapath.specs.Commands.{flow_mod_refusals, commanded, command_notices, notice_effects, packet_out_refusals, packet_out_frame, frame_named, without_packet}
use Rattle.of_datapath.specs.{Buffers.Held, Buffers.forgotten, declared.control.AsyncConfig.AsyncConfig, Control.heard_of, Control.heard_while, Control.released, declared.effect.Effect.Effect}
use Rattle.of_datapath.specs.{declared.effect.Effect.TheVariants.Answer, declared.effect.Effect.TheVariants.Closed, PortStatus.status_told, PortStatus.change_told}
use Rattle.of_datapath.specs.{Roles.generation_refusals, Roles.with_role, Statistics.absent_port_refusals, Statistics.multipart_bytes}
use Rattle.of_datapath.specs.Datapath.{Forwarded, framed, started, through}
use Rattle.of_machine.specs.Rows.{acts, entering}
use Rattle.of_switch.specs.{GroupMods.group_mod_fault, GroupMods.refused_for, declared.port_change.PortChange.PortChange}
use Rattle.of_switch.specs.declared.port_change.PortChange.TheVariants.{Add, Remove, Link}
use Rattle.of_switch.specs.{PortMods.port_mod_refusals, PortMods.modified_port, State.Core, State.State}
use Rattle.of_ports.specs.Ports.{new_port, port_at, with_port, without_port, changed_at_port, linked, with_config}
use Rattle.of_ports.specs.declared.port.Port.{Port}

-- A MESSAGE (7.3): its effects and the core after it, whatever the connection

pub record Done : Type 0 where
  pub effects : List Effect
  pub core : Core

abbrev pub does : List Effect → Core → Done
does effects k = record { effects = effects; core = k }

abbrev pub with_tables : Tables → Core → Core
with_tables ts k = record k { forwarding = record k.forwarding { tables = ts } }

abbrev pub with_ports : List Port → Core → Core
with_ports ports k = record k { forwarding = record k.forwarding { ports = ports } }

abbrev pub core_with_groups : List AGroup → Core → Core
core_with_groups groups k = record k { forwarding = record k.forwarding { groups = groups } }

-- the effects of forwarding, and the core with what forwards frames after it
abbrev pub forwarded : Forwarded → Core → Done
forwarded f k = does f.effects (record k { forwarding = f.forwarding })

-- the refusals of a message that was read, in the written order
abbrev pub state_refusals : Message → Core → List (Bool × Code)
state_refusals (Multipart request) k = absent_port_refusals request k.forwarding.ports
state_refusals (IsRoleRequest request) k = generation_refusals request k.control
state_refusals (IsPacketOut m) k = packet_out_refusals m k.forwarding.groups k.forwarding.held
state_refusals (IsPortMod m) k = port_mod_refusals m k.forwarding.ports
state_refusals (IsFlowMod m) k = flow_mod_refusals m k.forwarding.tables k.forwarding.groups k.forwarding.held
state_refusals (IsGroupMod m) k = refused_for (group_mod_fault m k.forwarding.tables.latest k.forwarding.groups)
state_refusals other k = []

-- a FLOW_MOD carries out its command, with the notices of the removed entries
abbrev pub after_command : FlowMod → Core → Done
after_command m k = does (notice_effects (heard_of k.control) k.forwarding.tables.latest (command_notices m k.forwarding.tables)) (with_tables (commanded m k.forwarding.tables) k)

-- then the held frame that it names begins, if it names one
abbrev pub held_frame_begun : ℕ → Option Held → Core → Done
held_frame_begun id None k = does [] k
held_frame_begun id (Some h) k = forwarded (started (heard_of k.control) id h k.forwarding) k

abbrev pub then_does : Done → (Core → Done) → Done
then_does d next = let e = next d.core in does (d.effects ++ e.effects) e.core

abbrev pub after_flow_mod : FlowMod → Core → Done
after_flow_mod m k = then_does (after_command m k) (held_frame_begun m.buffer (frame_named m k.forwarding.held))

-- a GROUP_MOD adds a group, whose time of creation is the latest moment, or gives one another type and other buckets
abbrev pub group_added : ℕ → GroupKind → List Bucket → Core → Done
group_added id kind buckets k = does [] (core_with_groups (with_group (new_group id kind buckets k.forwarding.tables.latest) k.forwarding.groups) k)

abbrev pub group_modified : ℕ → GroupKind → List Bucket → Core → Done
group_modified id kind buckets k = does [] (core_with_groups (with_group (modified_group id kind buckets k.forwarding.groups) k.forwarding.groups) k)

-- or deletes one or all, and the entries that name them, with the notices of these entries (6.5)
abbrev pub groups_deleted : Option ℕ → Core → Done
groups_deleted which k =
    does (notice_effects (heard_of k.control) k.forwarding.tables.latest (notices_in (Group which) k.forwarding.tables))
    (core_with_groups (groups_left which k.forwarding.groups) (with_tables (left_in (Group which) k.forwarding.tables) k))

abbrev pub after_group_mod : GroupMod → Core → Done
after_group_mod (group_mod.Add g) k = group_added g.id g.kind g.buckets k
after_group_mod (group_mod.Modify g) k = group_modified g.id g.kind g.buckets k
after_group_mod (group_mod.Delete which) k = groups_deleted which k

-- a PACKET_OUT runs its actions on its packet, with no lookup before; a held frame is used by it
abbrev pub sent_out : PacketOut → Option (List ℕ) → Core → Done
sent_out m None k = does [] k
sent_out m (Some frame) k =
    let f = k.forwarding in
    forwarded (through (heard_of k.control) (entering frame m.in_port) (acts m.actions) (record f { held = without_packet m.packet f.held })) k

abbrev pub after_packet_out : PacketOut → Core → Done
after_packet_out m k = sent_out m (packet_out_frame m.packet k.forwarding.held) k

-- a port gets its new configuration, with a PORT_STATUS where its description changes
abbrev pub port_modded_at : PortMod → Core → Option Port → Done
port_modded_at m k None = does [] k
port_modded_at m k (Some p) = does (change_told (heard_of k.control) p (modified_port m p)) (with_ports (changed_at_port m.port (with_config (modified_port m p).config) k.forwarding.ports) k)

abbrev pub after_port_mod : PortMod → Core → Done
after_port_mod m k = port_modded_at m k (port_at k.forwarding.ports m.port)

-- what a controller sets: the configuration (7.3.2), its role, with a ROLE_REPLY (7.3.9), and the masks of asynchronous messages (7.3.10)
abbrev pub switch_configured : SwitchConfig → Core → Done
switch_configured config k = does [] (record k { control = record k.control { config = config } })

abbrev pub role_asked : ℕ → RoleRequest → Core → Done
role_asked xid request k =
    let c = with_role request k.control in
    does (Answer (role_reply_bytes xid c.role c.generation) ∷ []) (record k { control = c })

-- a multipart request is replied to (7.3.5)
abbrev pub replied : ℕ → MultipartRequest → Core → Done
replied xid request k = does (map Answer (multipart_bytes xid request k.forwarding)) k

abbrev pub masks_configured : AsyncMasks → Core → Done
masks_configured masks k = does [] (record k { control = record k.control { masks = masks } })

-- what a message that is not refused does: a later HELLO, an ERROR, an ECHO_REPLY and a TABLE_MOD do nothing
abbrev pub done : ℕ → Message → Core → Done
done xid (EchoRequest echoed) k = does (Answer (echo_reply_bytes xid echoed) ∷ []) k
done xid FeaturesRequest k = does (Answer (features_reply_bytes xid k.dpid) ∷ []) k
done xid GetConfigRequest k = does (Answer (config_reply_bytes xid k.control.config) ∷ []) k
done xid (SetConfig config) k = switch_configured config k
done xid BarrierRequest k = does (Answer (barrier_reply_bytes xid) ∷ []) k
done xid (Multipart request) k = replied xid request k
done xid (IsRoleRequest request) k = role_asked xid request k
done xid GetAsyncRequest k = does (Answer (async_reply_bytes xid k.control.masks) ∷ []) k
done xid (SetAsync masks) k = masks_configured masks k
done xid (IsPacketOut m) k = after_packet_out m k
done xid (IsPortMod m) k = after_port_mod m k
done xid (IsFlowMod m) k = after_flow_mod m k
done xid (IsGroupMod m) k = after_group_mod m k
done xid other k = does [] k

-- a refused message is answered by an ERROR with its first bytes (7.4.4), and does nothing else
abbrev pub refused : ℕ → Code → List ℕ → Core → Done
refused xid code failed k = does (Answer (error_bytes xid code failed) ∷ []) k

abbrev pub unless_refused : Option Code → ℕ → List ℕ → Core → Done → Done
unless_refused None xid failed k d = d
unless_refused (Some code) xid failed k d = refused xid code failed k

unfoldable pub handled : ℕ → Message → List ℕ → Core → Done
handled xid m failed k = unless_refused (first_of (state_refusals m k)) xid failed k (done xid m k)

-- THE SWITCH

-- the effects of an event, and the switch after it
pub record Outcome : Type 0 where
  pub effects : List Effect
  pub state : State

abbrev pub gives : List Effect → State → Outcome
gives effects s = record { effects = effects; state = s }

-- this connection, beside what the core has done
abbrev pub beside : Connection → Done → Outcome
beside c d = gives d.effects (record { connection = c; core = d.core })

-- A CONNECTION (6.3.1): the switch begins with its HELLO

abbrev pub connected : State → Outcome
connected s = gives (Answer hello_bytes ∷ []) (record s { connection = greeting })

-- what a controller set for itself ends with its connection, and so do the frames that are held for it
abbrev pub without_connection : Core → Core
without_connection k = record k { control = released k.control; forwarding = record k.forwarding { held = forgotten k.forwarding.held } }

-- the connection is lost, with the bytes that were received and not handled; without a connection nothing happens
abbrev pub lost : State → State
lost s = if is_disconnected s.connection.phase then s else record { connection = alone; core = without_connection s.core }

-- bytes of the controller are received
abbrev pub fed : List ℕ → State → State
fed chunk s = record s { connection = fed_connection chunk s.connection }

-- WHAT COMES NEXT IN THE CONTROLLER'S STREAM

-- the first 64 bytes of the next message
abbrev pub failed_of : ℕ → Connection → List ℕ
failed_of size c = take 64 (take size c.pending)

-- an ERROR, and the end of the connection
abbrev pub closing : List ℕ → Core → Done
closing error k = does (Answer error ∷ Closed ∷ []) (without_connection k)

-- a malformed header is BAD_REQUEST, BAD_LEN (7.4.4: 1/6) with its 8 bytes; a first message that is not accepted is
-- HELLO_FAILED, INCOMPATIBLE (0/0) without data
abbrev pub came : Next → Connection → Core → Option Done
came Nothing c k = None
came (BadStream xid) c k = Some (closing (error_bytes xid OFPBRC_BAD_LEN (take 8 c.pending)) k)
came (NotHello xid) c k = Some (closing (error_bytes xid OFPHFC_INCOMPATIBLE []) k)
came (Opened size) c k = Some (does [] k)
came (Refused xid size code) c k = Some (refused xid code (failed_of size c) k)
came (Read xid size message) c k = Some (handled xid message (failed_of size c) k)

abbrev pub then_beside : Connection → Option Done → Option Outcome
then_beside c None = None
then_beside c (Some d) = Some (beside c d)

abbrev pub next_by : Next → State → Option Outcome
next_by next s = then_beside (entered next s.connection) (came next s.connection s.core)

-- what comes next from the controller, whose role decides which messages it may send
abbrev pub coming : State → Next
coming s = next_in s.core.control.role s.connection

-- the first whole message is handled, or the malformed header; or there is neither
abbrev pub next_of : State → Option Outcome
next_of s = next_by (coming s) s

-- what comes next is a message of that transaction id and size that is refused with this code: for its bytes, or for the state
abbrev pub IsRefusedWith : Next → Core → ℕ → ℕ → Code → Type 0
IsRefusedWith (Refused x n c) k xid size code = (x ≡ xid) × (n ≡ size) × (c ≡ code)
IsRefusedWith (Read x n m) k xid size code = (x ≡ xid) × (n ≡ size) × (first_of (state_refusals m k) ≡ Some code)
IsRefusedWith other k xid size code = ⊥

-- THE ASYNCHRONOUS MESSAGES THAT THE CONTROLLER RECEIVES

abbrev pub heard_in : State → AsyncConfig
heard_in s = heard_while s.connection.phase s.core.control

-- A FRAME

abbrev pub frame_in : ℕ → List ℕ → State → Outcome
frame_in port bytes s = beside s.connection (forwarded (framed (heard_in s) port bytes s.core.forwarding) s.core)

-- A MOMENT: expired entries are removed (5.5), with a notice of each whose flags ask for one

abbrev pub moment_done : AsyncConfig → ℕ → Core → Done
moment_done heard now k =
    let ts = k.forwarding.tables in
    does (notice_effects heard (max ts.latest now) (expiry_notices now ts)) (with_tables (expired now ts) k)

abbrev pub moment_in : ℕ → State → Outcome
moment_in now s = beside s.connection (moment_done (heard_in s) now s.core)

-- A PORT (7.2.1): it is added or removed, or its link changes, with a PORT_STATUS where that shows; no flow and no group changes

-- a port is added at the latest moment
abbrev pub port_added : AsyncConfig → Port → Core → Done
port_added heard p k = does (status_told heard port.Add p) (with_ports (with_port p k.forwarding.ports) k)

-- the PORT_STATUS of a removed port describes it as it was
abbrev pub removed_at : AsyncConfig → ℕ → Core → Option Port → Done
removed_at heard n k None = does [] k
removed_at heard n k (Some p) = does (status_told heard port.Delete p) (with_ports (without_port n k.forwarding.ports) k)

abbrev pub linked_at : AsyncConfig → ℕ → Bool → Core → Option Port → Done
linked_at heard n up k None = does [] k
linked_at heard n up k (Some p) = does (change_told heard p (linked up p)) (with_ports (changed_at_port n (linked up) k.forwarding.ports) k)

abbrev pub port_done : AsyncConfig → PortChange → Core → Done
port_done heard (Add number hw name up) k = port_added heard (new_port number hw name up k.forwarding.tables.latest) k
port_done heard (Remove n) k = removed_at heard n k (port_at k.forwarding.ports n)
port_done heard (Link n up) k = linked_at heard n up k (port_at k.forwarding.ports n)

abbrev pub port_changed : PortChange → State → Outcome
port_changed change s = beside s.connection (port_done (heard_in s) change s.core)
