-- CHECKSUMS (RFC 1071, 1): the complement of the sum of the words of 16 bits that they cover, in one's complement.
use Rattle.std.specs.Prelude.{ℕ, zero, suc, ◌+◌, ◌-◌, ◌*◌, ◌/◌, ◌%◌, ◌^◌}
use Rattle.of_layers.specs.declared.field.Field.TheVariants.{IpDscp, IpEcn, IpProto, Ipv4Src, Ipv4Dst, Ipv6Src, Ipv6Dst, TcpSrc, TcpDst, UdpSrc, UdpDst, Icmpv4Type, Icmpv4Code, Icmpv6Type, Icmpv6Code}
use Rattle.of_layers.specs.declared.transport.Transport.TheVariants.{Nothing, Tcp, Udp, Icmpv4, Icmpv6}
use Rattle.of_layers.specs.{declared.transport.Transport.Transport, declared.field.Field.Field}
use Rattle.of_rewrite.specs.Checksum.{fold, never_zero}
use Rattle.of_frames.specs.Given.{given_number}

abbrev pub checksum_of : ℕ → ℕ
checksum_of sum = 65535 - fold sum

-- the sum of the k words of 16 bits of a number
abbrev pub word_sum : ℕ → ℕ → ℕ
word_sum zero a = 0
word_sum (suc k) a = a / 2 ^ (16 * k) % 65536 + word_sum k a

-- ---- what an IP packet carries: its protocol (IANA, Protocol Numbers), and how many bytes it takes

abbrev pub protocol_with : Transport → (Field → ℕ) → ℕ
protocol_with Nothing v = given_number v IpProto
protocol_with Tcp v = 6
protocol_with Udp v = 17
protocol_with Icmpv4 v = 1
protocol_with Icmpv6 v = 58

abbrev pub size_with : Transport → ℕ
size_with Nothing = 0
size_with Tcp = 20
size_with Udp = 8
size_with Icmpv4 = 8
size_with Icmpv6 = 8

-- ---- the words that are covered; those that are 0 add nothing

-- DSCP and ECN in one byte
abbrev pub service_given : (Field → ℕ) → ℕ
service_given v = given_number v IpDscp * 4 + given_number v IpEcn

-- the IPv4 header (RFC 791, 3.1): version, header length and DSCP, total length, TTL and protocol, addresses
abbrev pub header_sum : Transport → (Field → ℕ) → ℕ
header_sum k v = 0x4500 + service_given v + (20 + size_with k) + (0x4000 + protocol_with k v) + word_sum 2 (given_number v Ipv4Src) + word_sum 2 (given_number v Ipv4Dst)

-- the addresses, the protocol and the length, which TCP, UDP and ICMPv6 take in (RFC 9293, 3.1; RFC 768; RFC 8200, 8.1)
abbrev pub ipv4_sum : Transport → (Field → ℕ) → ℕ
ipv4_sum k v = word_sum 2 (given_number v Ipv4Src) + word_sum 2 (given_number v Ipv4Dst) + protocol_with k v + size_with k

abbrev pub ipv6_sum : Transport → (Field → ℕ) → ℕ
ipv6_sum k v = word_sum 8 (given_number v Ipv6Src) + word_sum 8 (given_number v Ipv6Dst) + protocol_with k v + size_with k

-- The checksum in the header of what is carried, where those words sum up to `around`. ICMP over IPv4 leaves them out (RFC 792). UDP never has the checksum 0 (RFC 768).
abbrev pub carried_checksum : ℕ → Transport → (Field → ℕ) → ℕ
carried_checksum around Nothing v = 0
carried_checksum around Tcp v = checksum_of (around + given_number v TcpSrc + given_number v TcpDst + 0x5000)
carried_checksum around Udp v = never_zero (checksum_of (around + given_number v UdpSrc + given_number v UdpDst + 8))
carried_checksum around Icmpv4 v = checksum_of (given_number v Icmpv4Type * 256 + given_number v Icmpv4Code)
carried_checksum around Icmpv6 v = checksum_of (around + given_number v Icmpv6Type * 256 + given_number v Icmpv6Code)
