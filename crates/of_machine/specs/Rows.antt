-- The rows of the machine: what each kind of work does to a packet (OpenFlow 1.3.5, 5.1, 5.6 and 5.9 to 5.12).
use Rattle.std.specs.Prelude.{ℕ, ◌^◌, ◌-◌, ◌==◌, Bool, false, ◌&&◌, ◌||◌, List, [], ◌∷◌, ◌++◌, Option, Some, None, length, map, if◌then◌else◌, bit_and, bit_or, unwrap_or}
use Rattle.of_wire.specs.declared.limits.TheConstants.{OFPP_ALL, OFPP_CONTROLLER, OFPP_FLOOD, OFPP_IN_PORT, OFPP_TABLE}
use Rattle.of_wire.specs.declared.reasons.PacketInReason.{PacketInReason}
use Rattle.of_wire.specs.declared.reasons.PacketInReason.TheVariants.{NoMatch, Action as ByAction, InvalidTtl}
use Rattle.of_layers.specs.{declared.field.Field.Field, Reading.layers_of}
use Rattle.of_headers.specs.FieldMap.{field_map}
use Rattle.of_rewrite.specs.Frames.{frame_set, frame_pushed, frame_popped, frame_ttl, frame_ttl_decremented}
use Rattle.of_rewrite.specs.{declared.frame.Ttl.Ttl, declared.frame.Ttl.TheVariants.Done, declared.frame.Ttl.TheVariants.Expired, declared.frame.Ttl.TheVariants.Absent}
use Rattle.of_rewrite.specs.TimeToLive.{ttl_of, dec_ttl_result}
use Rattle.of_actions.specs.declared.action.Action.TheVariants.{Output, PushVlan, PopVlan, Group, SetNwTtl, DecNwTtl, SetField}
use Rattle.of_actions.specs.declared.instruction.Instruction.TheVariants.{Apply, Clear, Write, Metadata, Goto}
use Rattle.of_actions.specs.{declared.action.Action.Action, declared.instruction.Instruction.Instruction}
use Rattle.of_action_set.specs.Sets.{with_actions, in_order}
use Rattle.of_table.specs.declared.flow.Flow.{Flow}
use Rattle.of_ports.specs.{declared.port.Port.Port, Ports.may_send, Ports.port_at, Ports.other_ports}
use Rattle.of_machine.specs.declared.data.Count.TheVariants.{Lookup as CountLookup, Matched, TxDropped, Group as CountGroup, Bucket}
use Rattle.of_machine.specs.declared.data.Step.TheVariants.{Miss, Entry, Apply as DidApply, Clear as DidClear, Write as DidWrite, Metadata as DidMetadata, Goto as DidGoto, Set as DidSet, Act as DidAct, TtlExpired, End}
use Rattle.of_machine.specs.{declared.data.Packet.Packet, declared.data.Item.Item, declared.data.Item.TheVariants.Sent, declared.data.Item.TheVariants.PacketIn, declared.data.Count.Count}
use Rattle.of_machine.specs.{declared.data.Step.Step, TheWorld.TheWorld}

-- a kind of work
pub data Work : Type 0 where
  Lookup : ℕ → Work
  Do : Instruction → Work
  RunSet : Work
  Act : Action → Work

-- a packet with its work
pub record Task : Type 0 where
  pub packet : Packet
  pub work : List Work

abbrev pub task : Packet → List Work → Task
task p work = record { packet = p; work = work }

-- what a row gives: its line, what is emitted and counted, and the packets that take the packet's place
pub record Row : Type 0 where
  pub line : Step
  pub items : List Item
  pub counts : List Count
  pub left : List Task

abbrev pub acts : List Action → List Work
acts l = map Act l

-- ---- packets

-- a cookie of all ones: there is no entry (7.4.1)
abbrev pub no_cookie : ℕ
no_cookie = 2 ^ 64 - 1

-- a packet that is received
abbrev pub entering : List ℕ → ℕ → Packet
entering frame ingress = record { frame = frame; ingress = ingress; metadata = 0; action_set = []; cookie = no_cookie; table = 0; miss = false }

-- the fields of a packet that a lookup compares (5.3)
abbrev pub key_of : Packet → Field → Option ℕ
key_of p = field_map (layers_of p.frame) p.ingress p.metadata

-- the table-miss flow entry has priority 0 and matches each packet (5.4)
abbrev pub is_miss : Flow → Bool
is_miss f = (f.priority == 0) && (length f.fields == 0)

-- ---- outputs (5.12 and 7.2.5)

pub record Emitted : Type 0 where
  pub items : List Item
  pub counts : List Count

abbrev pub empty_emitted : Emitted
empty_emitted = record { items = []; counts = [] }

-- a PACKET_IN, with the packet's cookie and table (7.4.1), the max_len of the OUTPUT that made it, if one did (7.2.5), and the whole frame
abbrev pub packet_in_emitted : PacketInReason → Option ℕ → Packet → Emitted
packet_in_emitted reason max_len p = record { items = PacketIn (record { reason = reason; table = p.table; cookie = p.cookie; ingress = p.ingress; metadata = p.metadata; max_len = max_len; frame = p.frame }) ∷ []; counts = [] }

-- an output by the table-miss flow entry has the reason NO_MATCH
abbrev pub output_reason : Packet → PacketInReason
output_reason p = if p.miss then NoMatch else ByAction

-- a port that may not send counts a transmit drop
abbrev pub to_port : Option Port → Packet → Emitted
to_port None p = empty_emitted
to_port (Some q) p =
    if may_send q
    then record { items = Sent q.number p.frame ∷ []; counts = [] }
    else record { items = []; counts = TxDropped q.number ∷ [] }

-- each port but the ingress port that may send
abbrev pub flooded : List Port → Packet → Emitted
flooded ports p = record { items = map (λ q. Sent q.number p.frame) (other_ports ports p.ingress); counts = [] }

-- what an OUTPUT emits; only IN_PORT sends out of the ingress port, and max_len is for the controller alone
abbrev pub emission : List Port → Packet → ℕ → ℕ → Emitted
emission ports p port max_len =
    if port == OFPP_IN_PORT then to_port (port_at ports p.ingress) p
    else if (port == OFPP_FLOOD) || (port == OFPP_ALL) then flooded ports p
    else if port == OFPP_CONTROLLER then packet_in_emitted (output_reason p) (Some max_len) p
    else if port == p.ingress then empty_emitted
    else to_port (port_at ports port) p

-- ---- actions (5.12)

abbrev pub goes_on : Step → Packet → List Work → Row
goes_on line p rest = record { line = line; items = []; counts = []; left = task p rest ∷ [] }

abbrev pub emits : Step → Emitted → List Task → Row
emits line e left = record { line = line; items = e.items; counts = e.counts; left = left }

-- OUTPUT to TABLE: a copy with metadata 0 and an empty action set begins at the first table, before this packet goes on
abbrev pub fresh_packet : Packet → Packet
fresh_packet p = record p { metadata = 0; action_set = [] }

abbrev pub output_to_table_row : Packet → List Work → Action → Row
output_to_table_row p rest a = record { line = DidAct a; items = []; counts = []; left = task (fresh_packet p) (Lookup 0 ∷ []) ∷ task p rest ∷ [] }

abbrev pub output_row : TheWorld → Packet → List Work → Action → ℕ → ℕ → Row
output_row w p rest a port max_len = if port == OFPP_TABLE then output_to_table_row p rest a else emits (DidAct a) (emission w.ports p port max_len) (task p rest ∷ [])

-- a TTL of 0 or 1 gives a PACKET_IN with INVALID_TTL, and the packet's work is emptied; without a TTL nothing changes
abbrev pub dec_ttl_row : Packet → List Work → Ttl → Row
dec_ttl_row p rest Expired = emits TtlExpired (packet_in_emitted InvalidTtl None p) (task p [] ∷ [])
dec_ttl_row p rest Done = goes_on (DidAct DecNwTtl) (record p { frame = frame_ttl_decremented p.frame }) rest
dec_ttl_row p rest Absent = goes_on (DidAct DecNwTtl) p rest

-- a copy with a bucket's actions as its action set
abbrev pub bucket_copy : TheWorld → ℕ → Packet → ℕ → Packet
bucket_copy w group p place = record p { action_set = with_actions [] (unwrap_or (w.bucket group place) []) }

abbrev pub copies : TheWorld → ℕ → Packet → List ℕ → List Task
copies w group p places = map (λ place. task (bucket_copy w group p place) (RunSet ∷ [])) places

-- GROUP: the group and each bucket that runs are counted; the copies come before the packet, which stays as it is (5.6.1)
abbrev pub group_action_row : TheWorld → Packet → List Work → ℕ → Option (List ℕ) → Row
group_action_row w p rest group None = goes_on (DidAct (Group group)) p rest
group_action_row w p rest group (Some places) =
    record {
      line = DidAct (Group group);
      items = [];
      counts = CountGroup group (length p.frame) ∷ map (λ place. Bucket group place (length p.frame)) places;
      left = copies w group p places ++ task p rest ∷ [];
    }

-- the frame that the other actions make
abbrev pub rewritten : Action → List ℕ → List ℕ
rewritten (PushVlan type) frame = frame_pushed type frame
rewritten PopVlan frame = frame_popped frame
rewritten (SetNwTtl ttl) frame = frame_ttl ttl frame
rewritten (SetField field value) frame = frame_set field value frame
rewritten other frame = frame

abbrev pub rewrite_row : Packet → List Work → Action → Row
rewrite_row p rest a = goes_on (DidAct a) (record p { frame = rewritten a p.frame }) rest

abbrev pub act_row : TheWorld → Packet → List Work → Action → Row
act_row w p rest (Output port max_len) = output_row w p rest (Output port max_len) port max_len
act_row w p rest (Group group) = group_action_row w p rest group (w.chosen group)
act_row w p rest DecNwTtl = dec_ttl_row p rest (dec_ttl_result (ttl_of (layers_of p.frame)))
act_row w p rest other = rewrite_row p rest other

-- ---- instructions (5.9)

-- the instructions, then the action set where they have no GOTO_TABLE
abbrev pub works : List Instruction → List Work
works [] = RunSet ∷ []
works (Goto t ∷ rest) = Do (Goto t) ∷ []
works (i ∷ rest) = Do i ∷ works rest

-- the bits of the mask are those of the value, and the others stay
abbrev pub with_metadata : ℕ → ℕ → ℕ → ℕ
with_metadata value mask old = bit_or (bit_and old (2 ^ 64 - 1 - mask)) (bit_and value mask)

-- the actions of an APPLY_ACTIONS come before what is left
abbrev pub do_row : Packet → List Work → Instruction → Row
do_row p rest (Apply l) = goes_on DidApply p (acts l ++ rest)
do_row p rest Clear = goes_on DidClear (record p { action_set = [] }) rest
do_row p rest (Write l) = goes_on DidWrite (record p { action_set = with_actions p.action_set l }) rest
do_row p rest (Metadata value mask) = goes_on (DidMetadata value mask) (record p { metadata = with_metadata value mask p.metadata }) rest
do_row p rest (Goto t) = goes_on (DidGoto t) p (Lookup t ∷ [])

-- ---- tables (5.3 and 5.4)

-- the packet at an entry
abbrev pub at_entry : ℕ → Flow → Packet → Packet
at_entry t f p = record p { cookie = f.cookie; table = t; miss = is_miss f }

-- no entry: the packet's work is emptied, and its action set is lost
abbrev pub miss_row : Packet → ℕ → Row
miss_row p t = record { line = Miss t; items = []; counts = CountLookup t ∷ []; left = task p [] ∷ [] }

-- an entry: its instructions are the packet's work
abbrev pub entry_row : Packet → ℕ → ℕ → Option Flow → Row
entry_row p t n None = miss_row p t
entry_row p t n (Some f) =
    record {
      line = Entry t n;
      items = [];
      counts = CountLookup t ∷ Matched t n (length p.frame) ∷ [];
      left = task (at_entry t f p) (works f.instructions) ∷ [];
    }

abbrev pub lookup_row : TheWorld → Packet → ℕ → Option ℕ → Row
lookup_row w p t None = miss_row p t
lookup_row w p t (Some n) = entry_row p t n (w.flow t n)

-- the packet once its action set runs: the set is empty, and what is done then belongs to no entry
abbrev pub set_out : Packet → Packet
set_out p = record p { action_set = []; cookie = no_cookie; miss = false }

-- THE ROW OF A PACKET: that of its first work
abbrev pub row : TheWorld → Packet → List Work → Row
row w p [] = record { line = End; items = []; counts = []; left = [] }
row w p (Lookup t ∷ rest) = lookup_row w p t (w.winner t (key_of p))
row w p (Do i ∷ rest) = do_row p rest i
row w p (RunSet ∷ rest) = goes_on DidSet (set_out p) (acts (in_order p.action_set) ++ rest)
row w p (Act a ∷ rest) = act_row w p rest a
