-- Frames through the flow tables and the groups, and out of the ports or, as a whole or in part, to the controller (OpenFlow 1.3.5, 5.1, 5.6, 7.2.1 and 7.4.1).
use Rattle.std.specs.Prelude.{ℕ, List, [], ◌∷◌, length, Option, Some, None, if◌then◌else◌}
use Rattle.of_layers.specs.declared.field.Field.{Field}
use Rattle.of_headers.specs.{declared.headers.FrameFault.FrameFault, Faults.frame_fault}
use Rattle.of_table.specs.Tables.{Tables, no_tables, tables_of, table_at, looked_in, matched_in}
use Rattle.of_table.specs.{Table.flow_at, Table.winner_place, declared.flow.Flow.Flow}
use Rattle.of_groups.specs.{declared.group.Group.Group, Groups.bucket_at, Groups.counted, Groups.bucket_counted, Chains.chain, Liveness.chosen}
use Rattle.of_ports.specs.declared.counters.PortCount.TheVariants.{Received, ReceiveDropped, ReceiveError, Sent as SentBytes, SendDropped}
use Rattle.of_ports.specs.{declared.port.Port.Port, declared.counters.PortCount.PortCount, Ports.all_counted, Ports.is_live_at, Ports.may_receive, Ports.port_at}
use Rattle.of_datapath.specs.{Buffers.Held, Buffers.HeldFrames, Buffers.none_held, Buffers.used, declared.control.AsyncConfig.AsyncConfig, declared.effect.Effect.Effect}
use Rattle.of_datapath.specs.{declared.effect.Effect.TheVariants.Answer, declared.effect.Effect.TheVariants.Sent, declared.effect.Effect.TheVariants.Closed, Told.effects_of, Told.held_after}
use Rattle.of_machine.specs.declared.data.Count.TheVariants.{Lookup, Matched, TxDropped, Group as GroupUse, Bucket}
use Rattle.of_machine.specs.{declared.data.Count.Count, declared.data.Packet.Packet, TheWorld.TheWorld, Rows.Work, Rows.Lookup as LookUp, Rows.entering, Runs.Machine, Runs.run_of}

-- the flow tables; the groups and the ports, each in ascending order of number; and the frames that are held for the controller
pub record Forwarding : Type 0 where
  pub tables : Tables
  pub groups : List Group
  pub ports : List Port
  pub held : HeldFrames

-- no flow, no group, no port, no frame
abbrev pub idle : Forwarding
idle = record { tables = tables_of no_tables; groups = []; ports = []; held = none_held }

-- a port counts this
abbrev pub count_port : ℕ → PortCount → Forwarding → Forwarding
count_port number what f = record f { ports = all_counted number what f.ports }

-- WHAT THE MACHINE SEES: entries are named by their index by age, from 0

abbrev pub winner_in : Forwarding → ℕ → (Field → Option ℕ) → Option ℕ
winner_in f t fields = winner_place fields (table_at t f.tables).flows

abbrev pub flow_in : Forwarding → ℕ → ℕ → Option Flow
flow_in f t place = flow_at place (table_at t f.tables).flows

abbrev pub world_of : Forwarding → TheWorld
world_of f = record { winner = winner_in f; flow = flow_in f; chosen = chosen f.groups (is_live_at f.ports); bucket = bucket_at f.groups; ports = f.ports; chain = chain f.groups }

-- WHAT A RUN LEAVES

-- what the machine counted, in order
abbrev pub tallied : Count → Forwarding → Forwarding
tallied (Lookup t) f = record f { tables = looked_in t f.tables }
tallied (Matched t place bytes) f = record f { tables = matched_in t place bytes f.tables }
tallied (TxDropped port) f = count_port port SendDropped f
tallied (GroupUse group bytes) f = record f { groups = counted group bytes f.groups }
tallied (Bucket group place bytes) f = record f { groups = bucket_counted group place bytes f.groups }

abbrev pub all_tallied : List Count → Forwarding → Forwarding
all_tallied [] f = f
all_tallied (c ∷ cs) f = all_tallied cs (tallied c f)

-- what was sent, in order: a port counts what it sends
abbrev pub sent : Effect → Forwarding → Forwarding
sent (Sent port frame) f = count_port port (SentBytes (length frame)) f
sent (Answer bytes) f = f
sent Closed f = f

abbrev pub all_sent : List Effect → Forwarding → Forwarding
all_sent [] f = f
all_sent (e ∷ es) f = all_sent es (sent e f)

-- A PACKET

-- what is sent, and what forwards frames after it
pub record Forwarded : Type 0 where
  pub effects : List Effect
  pub forwarding : Forwarding

abbrev pub forwards : List Effect → Forwarding → Forwarded
forwards effects f = record { effects = effects; forwarding = f }

-- the items of a run are sent, where the controller's masks and the ports allow it, and those that are sent in part are held; its counts are counted
abbrev pub applied : AsyncConfig → List Port → Machine → Forwarding → Forwarded
applied heard ports m f =
    let effects = effects_of heard ports f.held m.items in
    forwards effects (all_sent effects (all_tallied m.counts (record f { held = held_after heard ports f.held m.items })))

-- a packet does its work
abbrev pub through : AsyncConfig → Packet → List Work → Forwarding → Forwarded
through heard p work f = applied heard f.ports (run_of (world_of f) p work) f

-- A FRAME

-- a frame is received, and looked up in the first table
abbrev pub received : AsyncConfig → ℕ → List ℕ → Forwarding → Forwarded
received heard number bytes f = applied heard f.ports (run_of (world_of f) (entering bytes number) (LookUp 0 ∷ [])) (count_port number (Received (length bytes)) f)

-- a frame that is too short or too long is a receive error of its port
abbrev pub taken_in : AsyncConfig → ℕ → List ℕ → Forwarding → Option FrameFault → Forwarded
taken_in heard number bytes f (Some fault) = forwards [] (count_port number ReceiveError f)
taken_in heard number bytes f None = received heard number bytes f

-- at a port that does not exist nothing happens; at one that may not receive the frame is dropped
abbrev pub arriving : AsyncConfig → ℕ → List ℕ → Forwarding → Option Port → Forwarded
arriving heard number bytes f None = forwards [] f
arriving heard number bytes f (Some p) = if may_receive p then taken_in heard number bytes f (frame_fault bytes) else forwards [] (count_port number ReceiveDropped f)

abbrev pub framed : AsyncConfig → ℕ → List ℕ → Forwarding → Forwarded
framed heard number bytes f = arriving heard number bytes f (port_at f.ports number)

-- A HELD FRAME

-- its place is emptied
abbrev pub without_held : ℕ → Forwarding → Forwarding
without_held id f = record f { held = used id f.held }

-- it begins at the first table, with the port at which it was received and metadata 0 (7.3.4.1: buffer_id); no port receives it again
abbrev pub started : AsyncConfig → ℕ → Held → Forwarding → Forwarded
started heard id h f = through heard (entering h.frame h.ingress) (LookUp 0 ∷ []) (without_held id f)
