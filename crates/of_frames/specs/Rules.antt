-- WHICH FIELDS FRAMES HAVE (OpenFlow 1.3.5, 7.2.3.7 and 7.2.3.8). A shape says which headers are behind the type; a frame has a field exactly if it has the header that the field's prerequisite names.
use Rattle.std.specs.Prelude.{◌≡◌, ℕ, ◌||◌, Bool, true, false, if◌then◌else◌, List, [], ◌∷◌, Option, Some, None}
use Rattle.of_layers.specs.Layers.{Body, Plain, Arp, Ipv4, Ipv6}
use Rattle.of_layers.specs.declared.field.Field.{Field}
use Rattle.of_layers.specs.declared.field.Field.TheVariants.{EthType, VlanVid, VlanPcp, IpProto}
use Rattle.of_layers.specs.{declared.field.Prerequisite.Prerequisite, Fields.ones_of, Fields.prerequisite_of, declared.transport.Transport.Transport}
use Rattle.of_layers.specs.declared.transport.Transport.TheVariants.{Tcp, Udp, Icmpv4, Icmpv6}
use Rattle.of_layers.specs.declared.field.Prerequisite.TheVariants as needs
use Rattle.of_headers.specs.FieldMap.{seen}
use Rattle.of_frames.specs.{declared.shape.Shape.Shape, declared.shape.Tagging.Tagging, declared.shape.Tagging.TheVariants.Untagged, declared.shape.Tagging.TheVariants.Tagged}
use Rattle.of_frames.specs.{declared.shape.Rule.Rule, declared.shape.Rule.TheVariants.Free, declared.shape.Rule.TheVariants.Absent, declared.shape.Rule.TheVariants.Under}
use Rattle.of_frames.specs.declared.shape.Shape.TheVariants as shapes

-- ---- headers

abbrev pub is_ipv4_shape : Shape → Bool
is_ipv4_shape shapes.Ipv4 = true
is_ipv4_shape shapes.Ipv4Tcp = true
is_ipv4_shape shapes.Ipv4Udp = true
is_ipv4_shape shapes.Ipv4Icmp = true
is_ipv4_shape other = false

abbrev pub is_ipv6_shape : Shape → Bool
is_ipv6_shape shapes.Ipv6 = true
is_ipv6_shape shapes.Ipv6Tcp = true
is_ipv6_shape shapes.Ipv6Udp = true
is_ipv6_shape shapes.Ipv6Icmp = true
is_ipv6_shape other = false

abbrev pub is_arp_shape : Shape → Bool
is_arp_shape shapes.Arp = true
is_arp_shape other = false

abbrev pub is_tcp : Shape → Bool
is_tcp shapes.Ipv4Tcp = true
is_tcp shapes.Ipv6Tcp = true
is_tcp other = false

abbrev pub is_udp_shape : Shape → Bool
is_udp_shape shapes.Ipv4Udp = true
is_udp_shape shapes.Ipv6Udp = true
is_udp_shape other = false

abbrev pub is_icmpv4 : Shape → Bool
is_icmpv4 shapes.Ipv4Icmp = true
is_icmpv4 other = false

abbrev pub is_icmpv6 : Shape → Bool
is_icmpv6 shapes.Ipv6Icmp = true
is_icmpv6 other = false

-- the header of a prerequisite is there; a VLAN tag is no matter of shape
abbrev pub has_header : Shape → Prerequisite → Bool
has_header s needs.Nothing = true
has_header s needs.Tag = false
has_header s needs.Ip = is_ipv4_shape s || is_ipv6_shape s
has_header s needs.Ipv4 = is_ipv4_shape s
has_header s needs.Ipv6 = is_ipv6_shape s
has_header s needs.Arp = is_arp_shape s
has_header s needs.Tcp = is_tcp s
has_header s needs.Udp = is_udp_shape s
has_header s needs.Icmpv4 = is_icmpv4 s
has_header s needs.Icmpv6 = is_icmpv6 s

-- the type, where a header follows it
abbrev pub shape_type : Shape → Option ℕ
shape_type shapes.Bare = None
shape_type shapes.Arp = Some 0x0806
shape_type s = if is_ipv4_shape s then Some 0x0800 else Some 0x86dd

-- the protocol, where a header follows it
abbrev pub protocol_of : Shape → Option ℕ
protocol_of s = if is_tcp s then Some 6 else if is_udp_shape s then Some 17 else if is_icmpv4 s then Some 1 else if is_icmpv6 s then Some 58 else None

-- that of the layers of a frame
abbrev pub ipv4_shape : Transport → Shape
ipv4_shape Tcp = shapes.Ipv4Tcp
ipv4_shape Udp = shapes.Ipv4Udp
ipv4_shape Icmpv4 = shapes.Ipv4Icmp
ipv4_shape other = shapes.Ipv4

abbrev pub ipv6_shape : Transport → Shape
ipv6_shape Tcp = shapes.Ipv6Tcp
ipv6_shape Udp = shapes.Ipv6Udp
ipv6_shape Icmpv6 = shapes.Ipv6Icmp
ipv6_shape other = shapes.Ipv6

abbrev pub shape_of : Body → Shape
shape_of (Plain rest) = shapes.Bare
shape_of (Arp ns rest) = shapes.Arp
shape_of (Ipv4 ns opts carried rest) = ipv4_shape carried.kind
shape_of (Ipv6 ns extensions carried rest) = ipv6_shape carried.kind

abbrev pub tagging_of : List (List ℕ) → Tagging
tagging_of [] = Untagged
tagging_of (t ∷ ts) = Tagged

-- ---- what is known of a field: nothing; that it is absent; or that it is there, with these bits under a mask

abbrev pub Obeys : Rule → Option ℕ → Type 0
Obeys Free o = Unit {0}
Obeys Absent o = o ≡ None
Obeys (Under mask bits) o = seen (Some mask) o ≡ Some bits

-- it has this value, if one is said
abbrev pub valued : Field → Option ℕ → Rule
valued f None = Under 0 0
valued f (Some v) = Under (ones_of f) v

abbrev pub of_shape : Shape → Field → Rule
of_shape s VlanVid = Free
of_shape s VlanPcp = Free
of_shape s EthType = valued EthType (shape_type s)
of_shape s IpProto = if has_header s needs.Ip then valued IpProto (protocol_of s) else Absent
of_shape s f = if has_header s (prerequisite_of f) then Under 0 0 else Absent

-- without a tag VLAN_VID is 0; with one it has the bit OFPVID_PRESENT, and VLAN_PCP is there
abbrev pub of_tagging : Tagging → Field → Rule
of_tagging Untagged VlanVid = Under 0x1fff 0
of_tagging Untagged VlanPcp = Absent
of_tagging Tagged VlanVid = Under 0x1000 0x1000
of_tagging Tagged VlanPcp = Under 0 0
of_tagging t other = Free

-- ---- a field map that obeys them

abbrev pub HasShape : Shape → (Field → Option ℕ) → Type 0
HasShape s map = (f : Field) → Obeys (of_shape s f) (map f)

abbrev pub IsTagging : Tagging → (Field → Option ℕ) → Type 0
IsTagging t map = (f : Field) → Obeys (of_tagging t f) (map f)
