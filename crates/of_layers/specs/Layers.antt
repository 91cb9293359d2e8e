-- The layers of a frame, and how they are encoded: addresses and type (IEEE 802.3, 3.1.1), VLAN tags (IEEE 802.1Q, 9.3), ARP (RFC 826), IPv4 (RFC 791, 3.1), IPv6 with its extension headers (RFC 8200, 3 and 4), TCP (RFC 9293, 3.1), UDP (RFC 768), ICMP (RFC 792), ICMPv6 (RFC 4443, 2.1).
use Rattle.std.specs.Prelude.{◌≡◌, ℕ, ◌+◌, List, [], ◌∷◌, ◌++◌, length, Option, Some, None}
use Rattle.of_layers.specs.declared.field.Field.TheVariants.{EthDst, EthSrc, EthType, VlanVid, VlanPcp, IpDscp, IpEcn, IpProto, Ipv4Src, Ipv4Dst, TcpSrc, TcpDst, UdpSrc, UdpDst, Icmpv4Type, Icmpv4Code, ArpOp, ArpSpa, ArpTpa, ArpSha, ArpTha, Ipv6Src, Ipv6Dst, Ipv6Flabel, Icmpv6Type, Icmpv6Code}
use Rattle.of_layers.specs.declared.transport.Transport.TheVariants.{Nothing, Tcp, Udp, Icmpv4, Icmpv6}
use Rattle.of_layers.specs.{declared.field.Field.Field, declared.transport.Transport.Transport, Fields.number_of, Bits.bits, Bits.bits_of}

-- A number of a header: how many bits it has, and its name, where it has one. A field's name is its number.
pub record Item : Type 0 where
  pub name : Option ℕ
  pub width : ℕ

abbrev pub plain : ℕ → Item
plain n = record { name = None; width = n }

abbrev pub named : Field → ℕ → Item
named f n = record { name = Some (number_of f); width = n }

abbrev pub own : ℕ → ℕ → Item
own m n = record { name = Some m; width = n }

-- names of numbers that are no fields: the TTL or hop limit, the checksum of the IPv4 header, and that of what it carries
abbrev pub ttl : ℕ
ttl = 101

abbrev pub header_checksum : ℕ
header_checksum = 102

abbrev pub checksum : ℕ
checksum = 103

-- ---- the headers, as the standards draw them

-- destination, source
abbrev pub addresses : List Item
addresses = named EthDst 48 ∷ named EthSrc 48 ∷ []

-- the outermost tag, which alone has fields: type, PCP, DEI, VID
abbrev pub outer_tag : List Item
outer_tag = plain 16 ∷ named VlanPcp 3 ∷ plain 1 ∷ named VlanVid 12 ∷ []

abbrev pub inner_tag : List Item
inner_tag = plain 16 ∷ plain 3 ∷ plain 1 ∷ plain 12 ∷ []

abbrev pub ether_type : List Item
ether_type = named EthType 16 ∷ []

-- hardware, protocol, their lengths, operation, sender's addresses, target's addresses
abbrev pub arp : List Item
arp = plain 16 ∷ plain 16 ∷ plain 8 ∷ plain 8 ∷ named ArpOp 16 ∷ named ArpSha 48 ∷ named ArpSpa 32 ∷ named ArpTha 48 ∷ named ArpTpa 32 ∷ []

-- version, header length in words, DSCP, ECN, total length, identification, flags, offset, time to live, protocol, checksum, addresses
abbrev pub ipv4 : List Item
ipv4 = plain 4 ∷ plain 4 ∷ named IpDscp 6 ∷ named IpEcn 2 ∷ plain 16 ∷ plain 16 ∷ plain 3 ∷ plain 13 ∷ own ttl 8 ∷ named IpProto 8 ∷ own header_checksum 16 ∷ named Ipv4Src 32 ∷ named Ipv4Dst 32 ∷ []

-- version, DSCP, ECN, flow label, payload length, next header, hop limit, addresses
abbrev pub ipv6 : Item → List Item
ipv6 next = plain 4 ∷ named IpDscp 6 ∷ named IpEcn 2 ∷ named Ipv6Flabel 20 ∷ plain 16 ∷ next ∷ own ttl 8 ∷ named Ipv6Src 128 ∷ named Ipv6Dst 128 ∷ []

-- next header, length in eight bytes after the first eight
abbrev pub options : Item → List Item
options next = next ∷ plain 8 ∷ []

-- next header, reserved, offset, reserved, more fragments, identification
abbrev pub fragment : Item → List Item
fragment next = next ∷ plain 8 ∷ plain 13 ∷ plain 2 ∷ plain 1 ∷ plain 32 ∷ []

-- TCP: ports, sequence, acknowledgment, offset and flags, window, checksum, urgent pointer; UDP: ports, length, checksum; ICMP: type, code, checksum
abbrev pub items_of : Transport → List Item
items_of Nothing = []
items_of Tcp = named TcpSrc 16 ∷ named TcpDst 16 ∷ plain 32 ∷ plain 32 ∷ plain 16 ∷ plain 16 ∷ own checksum 16 ∷ plain 16 ∷ []
items_of Udp = named UdpSrc 16 ∷ named UdpDst 16 ∷ plain 16 ∷ own checksum 16 ∷ []
items_of Icmpv4 = named Icmpv4Type 8 ∷ named Icmpv4Code 8 ∷ own checksum 16 ∷ []
items_of Icmpv6 = named Icmpv6Type 8 ∷ named Icmpv6Code 8 ∷ own checksum 16 ∷ []

-- how many bytes these take
abbrev pub size_of : Transport → ℕ
size_of Nothing = 0
size_of Tcp = 20
size_of Udp = 8
size_of Icmpv4 = 4
size_of Icmpv6 = 4

-- ---- layers: the numbers of each header, and bytes that no field names

-- what an IP packet carries: a header and the bytes after it
pub record Carried : Type 0 where
  pub kind : Transport
  pub numbers : List ℕ
  pub rest : List ℕ

-- an extension header of IPv6: options or routing, with the bytes that its length counts, or that of a fragment
pub data Extension : Type 0 where
  Options : List ℕ → List ℕ → Extension
  Fragment : List ℕ → Extension

-- how many bytes they take
abbrev pub extension_bytes : Extension → ℕ
extension_bytes (Options ns bytes) = 2 + length bytes
extension_bytes (Fragment ns) = 8

abbrev pub all_bytes : List Extension → ℕ
all_bytes [] = 0
all_bytes (e ∷ es) = extension_bytes e + all_bytes es

-- What follows the type. ARP: numbers, and bytes after them. IPv4: numbers, options, what it carries, and bytes after its total length. IPv6: numbers, extension headers, what it carries, and bytes after its payload.
pub data Body : Type 0 where
  Plain : List ℕ → Body
  Arp : List ℕ → List ℕ → Body
  Ipv4 : List ℕ → List ℕ → Carried → List ℕ → Body
  Ipv6 : List ℕ → List Extension → Carried → List ℕ → Body

-- the numbers of the addresses, those of each tag, the type and the rest
pub record Layers : Type 0 where
  pub ends : List ℕ
  pub tags : List (List ℕ)
  pub type : ℕ
  pub body : Body

-- ---- encoding: each number in its place

pub record Cell : Type 0 where
  pub name : Option ℕ
  pub width : ℕ
  pub value : ℕ

abbrev pub cells_in : List Item → List ℕ → List Cell
cells_in [] ns = []
cells_in (i ∷ is) [] = []
cells_in (i ∷ is) (n ∷ ns) = record { name = i.name; width = i.width; value = n } ∷ cells_in is ns

abbrev pub byte_cells : List ℕ → List Cell
byte_cells [] = []
byte_cells (b ∷ bs) = record { name = None; width = 8; value = b } ∷ byte_cells bs

abbrev pub inner_cells : List (List ℕ) → List Cell
inner_cells [] = []
inner_cells (t ∷ ts) = cells_in inner_tag t ++ inner_cells ts

abbrev pub tag_cells : List (List ℕ) → List Cell
tag_cells [] = []
tag_cells (t ∷ ts) = cells_in outer_tag t ++ inner_cells ts

-- the last of the numbers that name a next header is the protocol
abbrev pub next_before : List Extension → Item
next_before [] = named IpProto 8
next_before (e ∷ es) = plain 8

abbrev pub extension_cells : List Extension → List Cell
extension_cells [] = []
extension_cells (Options ns bytes ∷ es) = cells_in (options (next_before es)) ns ++ (byte_cells bytes ++ extension_cells es)
extension_cells (Fragment ns ∷ es) = cells_in (fragment (next_before es)) ns ++ extension_cells es

abbrev pub carried_cells : Carried → List Cell
carried_cells c = cells_in (items_of c.kind) c.numbers ++ byte_cells c.rest

abbrev pub body_cells : Body → List Cell
body_cells (Plain rest) = byte_cells rest
body_cells (Arp ns rest) = cells_in arp ns ++ byte_cells rest
body_cells (Ipv4 ns opts carried rest) = cells_in ipv4 ns ++ (byte_cells opts ++ (carried_cells carried ++ byte_cells rest))
body_cells (Ipv6 ns extensions carried rest) = cells_in (ipv6 (next_before extensions)) ns ++ (extension_cells extensions ++ (carried_cells carried ++ byte_cells rest))

abbrev pub cells : Layers → List Cell
cells l = cells_in addresses l.ends ++ (tag_cells l.tags ++ (cells_in ether_type (l.type ∷ []) ++ body_cells l.body))

abbrev pub encoded : List Cell → List ℕ
encoded [] = []
encoded (c ∷ cs) = bits c.width c.value ++ encoded cs

-- the frame is the encoding of the layers
abbrev pub EncodesLayers : Layers → List ℕ → Type 0
EncodesLayers l frame = bits_of frame ≡ encoded (cells l)
