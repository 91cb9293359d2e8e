-- THE FRAME: each of its headers is as short as it can be, and nothing comes after them. TTL and hop limit are 64.
use Rattle.std.specs.Prelude.{ℕ, ◌+◌, List, [], ◌∷◌}
use Rattle.of_layers.specs.declared.field.Field.TheVariants.{EthDst, EthSrc, VlanPcp, IpDscp, IpEcn, Ipv4Src, Ipv4Dst, TcpSrc, TcpDst, UdpSrc, UdpDst, Icmpv4Type, Icmpv4Code, ArpOp, ArpSpa, ArpTpa, ArpSha, ArpTha, Ipv6Src, Ipv6Dst, Ipv6Flabel, Icmpv6Type, Icmpv6Code}
use Rattle.of_layers.specs.declared.transport.Transport.TheVariants.{Nothing, Tcp, Udp, Icmpv4, Icmpv6}
use Rattle.of_layers.specs.Layers.{Carried, Body, Plain, Arp, Ipv4, Ipv6, Layers, cells}
use Rattle.of_layers.specs.{declared.transport.Transport.Transport, declared.field.Field.Field}
use Rattle.of_rewrite.specs.Frames.{bytes_in}
use Rattle.of_frames.specs.Checksums.{checksum_of, protocol_with, size_with, header_sum, ipv4_sum, ipv6_sum, carried_checksum}
use Rattle.of_frames.specs.{declared.shape.Shape.Shape, declared.shape.Tagging.Tagging, declared.shape.Tagging.TheVariants.Untagged, declared.shape.Tagging.TheVariants.Tagged}
use Rattle.of_frames.specs.Given.{given_number, type_given, vid_given}
use Rattle.of_frames.specs.declared.shape.Shape.TheVariants as shapes

abbrev pub ends_given : (Field → ℕ) → List ℕ
ends_given v = given_number v EthDst ∷ given_number v EthSrc ∷ []

-- a customer tag (IEEE 802.1Q, 9.5): type, PCP, DEI, VID
abbrev pub tags_given : Tagging → (Field → ℕ) → List (List ℕ)
tags_given Untagged v = []
tags_given Tagged v = (0x8100 ∷ given_number v VlanPcp ∷ 0 ∷ vid_given v ∷ []) ∷ []

-- ARP for Ethernet and IPv4 (RFC 826)
abbrev pub arp_given : (Field → ℕ) → List ℕ
arp_given v = 1 ∷ 0x0800 ∷ 6 ∷ 4 ∷ given_number v ArpOp ∷ given_number v ArpSha ∷ given_number v ArpSpa ∷ given_number v ArpTha ∷ given_number v ArpTpa ∷ []

-- without options, in one fragment
abbrev pub ipv4_given : Transport → (Field → ℕ) → List ℕ
ipv4_given k v = 4 ∷ 5 ∷ given_number v IpDscp ∷ given_number v IpEcn ∷ (20 + size_with k) ∷ 0 ∷ 0 ∷ 0 ∷ 64 ∷ protocol_with k v ∷ checksum_of (header_sum k v) ∷ given_number v Ipv4Src ∷ given_number v Ipv4Dst ∷ []

-- without extension headers
abbrev pub ipv6_given : Transport → (Field → ℕ) → List ℕ
ipv6_given k v = 6 ∷ given_number v IpDscp ∷ given_number v IpEcn ∷ given_number v Ipv6Flabel ∷ size_with k ∷ protocol_with k v ∷ 64 ∷ given_number v Ipv6Src ∷ given_number v Ipv6Dst ∷ []

-- TCP: a header of five words of 32 bits without flags; UDP: a length of 8
abbrev pub numbers_given : Transport → (Field → ℕ) → ℕ → List ℕ
numbers_given Nothing v sum = []
numbers_given Tcp v sum = given_number v TcpSrc ∷ given_number v TcpDst ∷ 0 ∷ 0 ∷ 0x5000 ∷ 0 ∷ sum ∷ 0 ∷ []
numbers_given Udp v sum = given_number v UdpSrc ∷ given_number v UdpDst ∷ 8 ∷ sum ∷ []
numbers_given Icmpv4 v sum = given_number v Icmpv4Type ∷ given_number v Icmpv4Code ∷ sum ∷ []
numbers_given Icmpv6 v sum = given_number v Icmpv6Type ∷ given_number v Icmpv6Code ∷ sum ∷ []

-- the other four bytes of a header of ICMP (RFC 792; RFC 4443, 2.1)
abbrev pub bytes_behind : Transport → List ℕ
bytes_behind Nothing = []
bytes_behind Tcp = []
bytes_behind Udp = []
bytes_behind Icmpv4 = 0 ∷ 0 ∷ 0 ∷ 0 ∷ []
bytes_behind Icmpv6 = 0 ∷ 0 ∷ 0 ∷ 0 ∷ []

abbrev pub carried_given : Transport → (Field → ℕ) → ℕ → Carried
carried_given k v sum = record { kind = k; numbers = numbers_given k v sum; rest = bytes_behind k }

abbrev pub body_over_ipv4 : Transport → (Field → ℕ) → Body
body_over_ipv4 k v = Ipv4 (ipv4_given k v) [] (carried_given k v (carried_checksum (ipv4_sum k v) k v)) []

abbrev pub body_over_ipv6 : Transport → (Field → ℕ) → Body
body_over_ipv6 k v = Ipv6 (ipv6_given k v) [] (carried_given k v (carried_checksum (ipv6_sum k v) k v)) []

abbrev pub body_given : Shape → (Field → ℕ) → Body
body_given shapes.Bare v = Plain []
body_given shapes.Arp v = Arp (arp_given v) []
body_given shapes.Ipv4 v = body_over_ipv4 Nothing v
body_given shapes.Ipv4Tcp v = body_over_ipv4 Tcp v
body_given shapes.Ipv4Udp v = body_over_ipv4 Udp v
body_given shapes.Ipv4Icmp v = body_over_ipv4 Icmpv4 v
body_given shapes.Ipv6 v = body_over_ipv6 Nothing v
body_given shapes.Ipv6Tcp v = body_over_ipv6 Tcp v
body_given shapes.Ipv6Udp v = body_over_ipv6 Udp v
body_given shapes.Ipv6Icmp v = body_over_ipv6 Icmpv6 v

abbrev pub layers_given : Shape → Tagging → (Field → ℕ) → Layers
layers_given s t v = record { ends = ends_given v; tags = tags_given t v; type = type_given s v; body = body_given s v }

-- its bytes
unfoldable pub frame_given : Shape → Tagging → (Field → ℕ) → List ℕ
frame_given s t v = bytes_in (cells (layers_given s t v))

-- how many there are
abbrev pub body_size : Shape → ℕ
body_size shapes.Bare = 0
body_size shapes.Arp = 28
body_size shapes.Ipv4 = 20
body_size shapes.Ipv4Tcp = 40
body_size shapes.Ipv4Udp = 28
body_size shapes.Ipv4Icmp = 28
body_size shapes.Ipv6 = 40
body_size shapes.Ipv6Tcp = 60
body_size shapes.Ipv6Udp = 48
body_size shapes.Ipv6Icmp = 48

abbrev pub tag_size : Tagging → ℕ
tag_size Untagged = 0
tag_size Tagged = 4

abbrev pub frame_size : Shape → Tagging → ℕ
frame_size s t = 14 + tag_size t + body_size s
