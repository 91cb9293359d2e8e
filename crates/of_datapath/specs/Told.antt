-- What a switch sends of the items that a packet's run gave: frames out of ports, and PACKET_INs to the controller (OpenFlow 1.3.5, 7.4.1), whose frames are held where only their first bytes are sent.
use Rattle.std.specs.Prelude.{ℕ, ◌^◌, ◌==◌, nat_lt, Bool, true, false, not, ◌&&◌, List, [], ◌∷◌, length, take, filter, flat_map, unwrap_or, is_none, if◌then◌else◌}
use Rattle.std.specs.Option.{option_map_or}
use Rattle.of_wire.specs.{declared.limits.TheConstants.OFP_NO_BUFFER, Reasons.packet_in_number, declared.reasons.PacketInReason.PacketInReason}
use Rattle.of_headers.specs.Faults.{frame_fault}
use Rattle.of_datapath.specs.{Buffers.Held, Buffers.HeldFrames, Buffers.id_following, Buffers.hold_all, declared.control.AsyncConfig.AsyncConfig, Control.lets_pass, declared.effect.Effect.Effect}
use Rattle.of_datapath.specs.declared.effect.Effect.TheVariants.{Answer, Sent}
use Rattle.of_messages.specs.Written.{packet_in_bytes}
use Rattle.of_wire.specs.declared.reasons.PacketInReason.TheVariants as reason
use Rattle.of_machine.specs.{declared.data.ToController.ToController, declared.data.Item.Item}
use Rattle.of_machine.specs.declared.data.Item.TheVariants as item
use Rattle.of_ports.specs.{declared.port.Port.Port, Ports.port_at}

-- ASYNCHRONOUS MESSAGES are filtered by reason: each is a bit of the mask of its message (7.3.10)

abbrev pub asynchronous_effects : ℕ → ℕ → List Effect → List Effect
asynchronous_effects mask reason effects = if lets_pass mask reason then effects else []

abbrev pub is_no_match : PacketInReason → Bool
is_no_match reason.NoMatch = true
is_no_match reason.Action = false
is_no_match reason.InvalidTtl = false

-- OFPPC_NO_PACKET_IN of the ingress port, where that exists, suppresses what the table-miss flow entry sends, and that alone (7.2.1)
abbrev pub is_suppressed : List Port → ToController → Bool
is_suppressed ports p = is_no_match p.reason && option_map_or (λ q. q.config.no_packet_in) (port_at ports p.ingress) false

-- a frame is always sent
abbrev pub is_given : AsyncConfig → List Port → Item → Bool
is_given heard ports (item.Sent port frame) = true
is_given heard ports (item.PacketIn p) = lets_pass heard.packet_in (2 ^ packet_in_number p.reason) && not (is_suppressed ports p)

abbrev pub given_items : AsyncConfig → List Port → List Item → List Item
given_items heard ports items = filter (is_given heard ports) items

-- A PACKET_IN (7.4.1) has the whole frame, or its first bytes and the id under which the frame is held

-- how many bytes it may have: what the OUTPUT says that made it (7.2.5), else miss_send_len (7.3.2)
abbrev pub limit_of : AsyncConfig → ToController → ℕ
limit_of heard p = unwrap_or p.max_len heard.miss_send_len

-- OFPCML_NO_BUFFER is no limit
abbrev pub no_limit : ℕ
no_limit = 0xffff

-- a frame of more bytes is held, if it is one that a port could receive
abbrev pub is_held : AsyncConfig → ToController → Bool
is_held heard p = not (limit_of heard p == no_limit) && nat_lt (limit_of heard p) (length p.frame) && is_none (frame_fault p.frame)

abbrev pub held_of : ToController → Held
held_of p = record { frame = p.frame; ingress = p.ingress }

-- an asynchronous message has the transaction id 0
abbrev pub packet_in_of : ToController → ℕ → List ℕ → Effect
packet_in_of p buffer «data» =
    Answer (packet_in_bytes 0 (record { buffer = buffer; total_len = length p.frame; reason = p.reason; table = p.table; cookie = p.cookie; in_port = p.ingress; metadata = p.metadata }) «data»)

-- what is sent of an item, where a frame that is held would get this id
abbrev pub effect_of : AsyncConfig → ℕ → Item → Effect
effect_of heard id (item.Sent port frame) = Sent port frame
effect_of heard id (item.PacketIn p) = if is_held heard p then packet_in_of p id (take (limit_of heard p) p.frame) else packet_in_of p OFP_NO_BUFFER p.frame

-- the frame that is held for it, if one is
abbrev pub frames_for : AsyncConfig → Item → List Held
frames_for heard (item.Sent port frame) = []
frames_for heard (item.PacketIn p) = if is_held heard p then held_of p ∷ [] else []

-- and then the next frame gets the id that follows
abbrev pub id_after : AsyncConfig → ℕ → Item → ℕ
id_after heard id (item.Sent port frame) = id
id_after heard id (item.PacketIn p) = if is_held heard p then id_following id else id

-- THE ID OF A LIST'S NEXT FRAME: that after all these items
abbrev pub id_after_all : AsyncConfig → ℕ → List Item → ℕ
id_after_all heard id [] = id
id_after_all heard id (i ∷ items) = id_after_all heard (id_after heard id i) items

-- all items that are given, one after the other
abbrev pub each_told : AsyncConfig → ℕ → List Item → List Effect
each_told heard id [] = []
each_told heard id (i ∷ items) = effect_of heard id i ∷ each_told heard (id_after heard id i) items

abbrev pub effects_of : AsyncConfig → List Port → HeldFrames → List Item → List Effect
effects_of heard ports b items = each_told heard b.next (given_items heard ports items)

abbrev pub held_after : AsyncConfig → List Port → HeldFrames → List Item → HeldFrames
held_after heard ports b items = hold_all (flat_map (frames_for heard) (given_items heard ports items)) b
