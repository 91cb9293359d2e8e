-- A TRACE IN WORDS: the frame, the steps, and what leaves.
use Rattle.std.specs.Prelude.{ℕ, ◌==◌, nat_lt, List, [], ◌∷◌, ◌++◌, length, Option, Some, None, codes, decimal, if◌then◌else◌}
use Rattle.std.specs.List.{flat_map}
use Rattle.of_wire.specs.declared.limits.TheConstants.{OFPP_CONTROLLER}
use Rattle.hex.specs.Hex.{encode_lower}
use Rattle.of_layers.specs.{declared.field.Field.Field, Fields.name_of, Reading.layers_of}
use Rattle.of_layers.specs.declared.field.Field.TheVariants as fields
use Rattle.of_headers.specs.{declared.headers.FrameFault.FrameFault, Faults.frame_fault}
use Rattle.of_rewrite.specs.TimeToLive.{ttl_of}
use Rattle.of_actions.specs.{declared.action.Action.Action, declared.action.Action.TheVariants.Output, declared.action.Action.TheVariants.Group, declared.action.Action.TheVariants.SetField}
use Rattle.of_ports.specs.{declared.port.Port.Port, Ports.is_live, Ports.may_receive, Ports.port_at}
use Rattle.of_table.specs.declared.flow.Flow.{Flow}
use Rattle.of_machine.specs.declared.data.Step.TheVariants.{Miss, Entry, Apply, Clear, Write, Metadata, Goto, Set, Act, TtlExpired, End}
use Rattle.of_machine.specs.declared.data.Step.{Step}
use Rattle.of_text.specs.{Lines.ended, Rows.row_encoding}
use Rattle.of_lines.specs.declared.row.Row.TheVariants as rows
use Rattle.of_datapath.specs.{declared.effect.Effect.Effect, declared.effect.Effect.TheVariants.Answer, declared.effect.Effect.TheVariants.Sent, declared.effect.Effect.TheVariants.Closed}
use Rattle.of_datapath.specs.Datapath.{Forwarding, flow_in}
use Rattle.of_values.specs.Numbers as numbers
use Rattle.of_values.specs.{Values.value_words, Entries.entry_words}
use Rattle.of_trace.specs.{declared.sight.Sight.Sight, Sights.key_seen, declared.unsent.Unsent.Unsent, Unsent.behind_line, Unsent.unsent_action}

-- words and a number
unfoldable pub numbered_words : List ℕ → ℕ → List ℕ
numbered_words words n = words ++ 32 ∷ decimal n

-- ---- THE FRAME: its ingress port, and of each header the fields that say from where and to where

-- a word and two fields that a frame has both or none of
abbrev pub pair_words : List ℕ → Field → List ℕ → Field → Option ℕ → Option ℕ → List ℕ
pair_words word a between b (Some x) (Some y) = codes ", " ++ word ++ 32 ∷ value_words a x None ++ between ++ value_words b y None
pair_words word a between b x y = []

unfoldable pub pair : (Field → Option ℕ) → List ℕ → Field → List ℕ → Field → List ℕ
pair map word a between b = pair_words word a between b (map a) (map b)

-- a word and a field
abbrev pub single_words : List ℕ → Field → Option ℕ → List ℕ
single_words word f None = []
single_words word f (Some v) = codes ", " ++ word ++ 32 ∷ value_words f v None

unfoldable pub single : (Field → Option ℕ) → List ℕ → Field → List ℕ
single map word f = single_words word f (map f)

unfoldable pub ttl_part : Option ℕ → List ℕ
ttl_part None = []
ttl_part (Some n) = numbered_words (codes ", ttl") n

unfoldable pub ethernet_words : (Field → Option ℕ) → List ℕ
ethernet_words map =
    pair map (codes "eth") fields.EthSrc (codes " > ") fields.EthDst
    ++ single map (codes "eth_type") fields.EthType
    ++ pair map (codes "vlan") fields.VlanVid (codes " priority ") fields.VlanPcp

unfoldable pub arp_words : (Field → Option ℕ) → List ℕ
arp_words map = pair map (codes "arp") fields.ArpSpa (codes " > ") fields.ArpTpa ++ single map (codes "arp_op") fields.ArpOp

unfoldable pub ip_words : (Field → Option ℕ) → List ℕ
ip_words map =
    pair map (codes "ipv4") fields.Ipv4Src (codes " > ") fields.Ipv4Dst
    ++ pair map (codes "ipv6") fields.Ipv6Src (codes " > ") fields.Ipv6Dst
    ++ single map (codes "ip_proto") fields.IpProto

unfoldable pub transport_words : (Field → Option ℕ) → List ℕ
transport_words map =
    pair map (codes "tcp") fields.TcpSrc (codes " > ") fields.TcpDst
    ++ pair map (codes "udp") fields.UdpSrc (codes " > ") fields.UdpDst
    ++ pair map (codes "icmp type") fields.Icmpv4Type (codes " code ") fields.Icmpv4Code
    ++ pair map (codes "icmpv6 type") fields.Icmpv6Type (codes " code ") fields.Icmpv6Code

unfoldable pub header_words : (Field → Option ℕ) → List ℕ
header_words map = ethernet_words map ++ arp_words map ++ ip_words map ++ transport_words map

-- what tables see of it, and its TTL or hop limit
unfoldable pub sight_words : Sight → List ℕ
sight_words s = header_words (key_seen s) ++ ttl_part (ttl_of (layers_of s.frame))

-- a frame that is received; one that is too short or too long is not
abbrev pub sights_unless_fault : ℕ → List ℕ → Option FrameFault → List Sight
sights_unless_fault port frame (Some fault) = []
sights_unless_fault port frame None = record { frame = frame; ingress = port; metadata = 0 } ∷ []

abbrev pub entering_sights : ℕ → List ℕ → List Sight
entering_sights port frame = sights_unless_fault port frame (frame_fault frame)

-- its headers, or that nothing happens, since a frame has 14 to 9,216 bytes
unfoldable pub packet_words : List ℕ → List Sight → List ℕ
packet_words frame [] = numbered_words (codes ",") (length frame) ++ codes " bytes: a frame has 14 to 9216 bytes, so it is dropped"
packet_words frame (s ∷ others) = sight_words s

-- why a frame is not received at a port that there is: its link or the port is down, or it does not receive (4.4, 7.2.1)
abbrev pub port_refuses : Port → List ℕ
port_refuses q =
    if may_receive q then []
    else (if is_live q then codes ": the port receives nothing, so the frame is dropped" else codes ": the port is down, so the frame is dropped")

unfoldable pub unreceived : Option Port → List ℕ
unreceived None = codes ": there is no such port, so the frame is dropped"
unreceived (Some q) = port_refuses q

unfoldable pub heading : Forwarding → ℕ → List ℕ → List ℕ
heading f port frame = codes "in_port " ++ numbers.port_in_words port ++ packet_words frame (entering_sights port frame) ++ unreceived (port_at f.ports port)

-- ---- THE STEPS

-- the flow of an entry of one of the sixteen tables
abbrev pub flow_there : Forwarding → ℕ → ℕ → Option Flow
flow_there f table place = if nat_lt table 16 then flow_in f table place else None

-- its priority and its match
unfoldable pub found_words : Option Flow → List ℕ
found_words None = []
found_words (Some flow) = codes ", " ++ entry_words flow.priority flow.fields

-- how many bytes of the packet the controller gets
unfoldable pub length_words : ℕ → ℕ → List ℕ
length_words port max_len = if port == OFPP_CONTROLLER then (if max_len == 0xffff then [] else numbered_words (codes ", the first") max_len ++ codes " bytes") else []

unfoldable pub action_line : Action → List ℕ
action_line (Output port max_len) = codes "output " ++ numbers.port_in_words port ++ length_words port max_len
action_line (Group group) = numbered_words (codes "group") group
action_line (SetField field value) = codes "set " ++ name_of field ++ 32 ∷ value_words field value None
action_line other = row_encoding (rows.Do other)

abbrev pub metadata_words : ℕ → ℕ → List ℕ
metadata_words value mask = codes "write metadata " ++ value_words fields.Metadata value (Some mask)

-- a step that needs no more than its own values
unfoldable pub plain_line : Step → List ℕ
plain_line Apply = codes "apply actions"
plain_line Clear = codes "clear the action set"
plain_line Write = codes "write into the action set"
plain_line (Metadata value mask) = metadata_words value mask
plain_line (Goto table) = numbered_words (codes "go to table") table
plain_line Set = codes "run the action set"
plain_line TtlExpired = codes "dec_nw_ttl: the TTL has expired, so the packet goes to the controller"
plain_line End = codes "end"
plain_line other = []

unfoldable pub words_line : Forwarding → Step → List ℕ
words_line f (Miss table) = numbered_words (codes "table") table ++ codes ": no entry matches"
words_line f (Entry table place) = numbered_words (codes "table") table ++ numbered_words (codes ": entry") place ++ found_words (flow_there f table place)
words_line f (Act action) = action_line action
words_line f other = plain_line other

-- why the action of a step sends nothing, of a frame that came in by this port
abbrev pub unsent_by_step : Forwarding → ℕ → Step → Option Unsent
unsent_by_step f ingress (Act action) = unsent_action f ingress action
unsent_by_step f ingress other = None

unfoldable pub step_words : Forwarding → ℕ → Step → List ℕ
step_words f ingress step = words_line f step ++ behind_line (unsent_by_step f ingress step)

abbrev pub words_text : Forwarding → ℕ → List Step → List ℕ
words_text f ingress steps = flat_map (λ s. ended (step_words f ingress s)) steps

-- ---- WHAT LEAVES

unfoldable pub effect_words : Effect → List ℕ
effect_words (Answer bytes) = codes "to the controller: " ++ encode_lower bytes
effect_words (Sent port frame) = numbered_words (codes "out by port") port ++ codes ": " ++ encode_lower frame
effect_words Closed = codes "the connection is closed"

abbrev pub leaving_line : Effect → List ℕ
leaving_line effect = effect_words effect ++ 10 ∷ []

abbrev pub leaving_text : List Effect → List ℕ
leaving_text effects = (if length effects == 0 then codes "nothing leaves" ++ 10 ∷ [] else []) ++ flat_map leaving_line effects
