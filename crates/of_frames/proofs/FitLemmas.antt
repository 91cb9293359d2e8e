-- The layers with given fields are layers that a frame can have.
use Rattle.std.proofs.Common.{◌≡◌, ℕ, zero, suc, ◌+◌, ◌-◌, ◌^◌, ◌<◌, ◌≤◌, min, Bool, true, false, cond, ◌&&◌, [], ◌∷◌, length, refl, arith}
use Rattle.std.{specs.Prelude.◌||◌, specs.Prelude.◌==◌, specs.Prelude.nat_le, proofs.lemmas.Nat.pow_pos, proofs.lemmas.Nat.mod_below}
use Rattle.of_layers.specs.declared.field.Field.TheVariants.{EthDst, EthSrc, EthType, VlanPcp, IpDscp, IpEcn, IpProto, Ipv4Src, Ipv4Dst, TcpSrc, TcpDst, UdpSrc, UdpDst, Icmpv4Type, Icmpv4Code, ArpOp, ArpSpa, ArpTpa, ArpSha, ArpTha, Ipv6Src, Ipv6Dst, Ipv6Flabel, Icmpv6Type, Icmpv6Code}
use Rattle.of_layers.specs.declared.transport.Transport.TheVariants.{Nothing, Tcp, Udp, Icmpv4, Icmpv6}
use Rattle.of_layers.specs.Reading.{is_tag_type, over_ipv4, over_ipv6, whole_in, has_extension, is_fragment, has_options, extension_size}
use Rattle.of_layers.specs.WellFormed.{AreBytes, FitsItems, AreTags, carried_size, IsArp, IsIpv4, IsIpv6, IsBody, IsLayers, has_packet}
use Rattle.of_layers.specs.{declared.field.Field.Field, declared.transport.Transport.Transport, Fields.row_of, Fields.bit_count, Layers.items_of, Layers.addresses, Layers.body_cells, Layers.encoded}
use Rattle.of_frames.specs.Checksums.{protocol_with, size_with, ipv4_sum, ipv6_sum, carried_checksum}
use Rattle.of_frames.specs.Packets.{ends_given, tags_given, arp_given, ipv4_given, ipv6_given, numbers_given, bytes_behind, carried_given, body_given, layers_given}
use Rattle.of_frames.specs.{declared.shape.Shape.Shape, declared.shape.Tagging.Tagging, declared.shape.Tagging.TheVariants.Untagged, declared.shape.Tagging.TheVariants.Tagged}
use Rattle.of_frames.specs.Given.{given_number, type_given}
use Rattle.of_frames.specs.declared.shape.Shape.TheVariants as shapes

-- ---- numbers within their bits

pub given_small : (v : Field → ℕ) (f : Field) → given_number v f < 2 ^ bit_count f
given_small v f = mod_below (v f) (2 ^ bit_count f) (pow_pos (bit_count f))

pub protocol_small : (k : Transport) (v : Field → ℕ) → protocol_with k v < 2 ^ 8
unfolding row_of
protocol_small Nothing v = given_small v IpProto
protocol_small other v = omega arith

pub size_small : (k : Transport) → size_with k ≤ 20
size_small Nothing = omega arith
size_small other = omega arith

total_small : (k : Transport) → 20 + size_with k < 2 ^ 16
total_small k = omega (arith, size_small k)

payload_small : (k : Transport) → size_with k < 2 ^ 16
payload_small k = omega (arith, size_small k)

total_fits : (k : Transport) → 20 ≤ 20 + size_with k
total_fits k = omega arith

below : (f : ℕ) → 65535 - f < 2 ^ 16
below f = omega arith

never_zero_small : (t : Bool) (c : ℕ) → c < 2 ^ 16 → cond t 65535 c < 2 ^ 16
never_zero_small true c h = omega arith
never_zero_small false c h = h

pub checksum_small : (around : ℕ) (k : Transport) (v : Field → ℕ) → carried_checksum around k v < 2 ^ 16
checksum_small around Nothing v = omega arith
checksum_small around Udp v = never_zero_small _ _ (below _)
checksum_small around other v = below _

-- ---- bytes

no_bytes : AreBytes []
no_bytes i = omega arith

four_zeros : AreBytes (0 ∷ 0 ∷ 0 ∷ 0 ∷ [])
four_zeros zero = omega arith
four_zeros (suc zero) = omega arith
four_zeros (suc (suc zero)) = omega arith
four_zeros (suc (suc (suc zero))) = omega arith
four_zeros (suc (suc (suc (suc i)))) = omega arith

bytes_behind_fit : (k : Transport) → AreBytes (bytes_behind k)
bytes_behind_fit Icmpv4 = four_zeros
bytes_behind_fit Icmpv6 = four_zeros
bytes_behind_fit other = no_bytes

-- ---- what an IP packet carries

numbers_fit : (k : Transport) (v : Field → ℕ) (sum : ℕ) → sum < 2 ^ 16 → FitsItems (items_of k) (numbers_given k v sum)
unfolding row_of
numbers_fit Nothing v sum h = tt
numbers_fit Tcp v sum h = (given_small v TcpSrc, (given_small v TcpDst, (omega arith, (omega arith, (omega arith, (omega arith, (h, (omega arith, tt))))))))
numbers_fit Udp v sum h = (given_small v UdpSrc, (given_small v UdpDst, (omega arith, (h, tt))))
numbers_fit Icmpv4 v sum h = (given_small v Icmpv4Type, (given_small v Icmpv4Code, (h, tt)))
numbers_fit Icmpv6 v sum h = (given_small v Icmpv6Type, (given_small v Icmpv6Code, (h, tt)))

-- no bytes hold a header
none4 : (a b c : Bool) → Nothing ≡ whole_in (cond a Tcp (cond b Udp (cond c Icmpv4 Nothing))) 0
none4 true b c = refl
none4 false true c = refl
none4 false false true = refl
none4 false false false = refl

none6 : (a b c : Bool) → Nothing ≡ whole_in (cond a Tcp (cond b Udp (cond c Icmpv6 Nothing))) 0
none6 true b c = refl
none6 false true c = refl
none6 false false true = refl
none6 false false false = refl

-- the kinds that IPv4 carries, and those that IPv6 carries
abbrev pub Over4 : Transport → Type 0
Over4 Icmpv6 = ⊥
Over4 other = Unit {0}

abbrev pub Over6 : Transport → Type 0
Over6 Icmpv4 = ⊥
Over6 other = Unit {0}

kind4 : (k : Transport) (v : Field → ℕ) (sum : ℕ) → Over4 k → k ≡ whole_in (over_ipv4 (protocol_with k v)) (carried_size (carried_given k v sum))
kind4 Nothing v sum o = none4 (given_number v IpProto == 6) (given_number v IpProto == 17) (given_number v IpProto == 1)
kind4 Icmpv6 v sum o = absurd o
kind4 other v sum o = refl

kind6 : (k : Transport) (v : Field → ℕ) (sum : ℕ) → Over6 k → k ≡ whole_in (over_ipv6 (protocol_with k v)) (carried_size (carried_given k v sum))
kind6 Nothing v sum o = none6 (given_number v IpProto == 6) (given_number v IpProto == 17) (given_number v IpProto == 58)
kind6 Icmpv4 v sum o = absurd o
kind6 other v sum o = refl

-- fewer than eight bytes hold no extension header
short : (a b : Bool) → (a && false && b) ≡ false
short true b = refl
short false b = refl

no_extension : (k : Transport) (v : Field → ℕ) → has_extension (protocol_with k v) (bytes_behind k) ≡ false
no_extension Nothing v = short (is_fragment (given_number v IpProto) || has_options (given_number v IpProto)) (nat_le (extension_size (given_number v IpProto) []) 0)
no_extension other v = refl

-- ---- bodies

inside4 : (k : Transport) (v : Field → ℕ) (sum : ℕ) → 20 + carried_size (carried_given k v sum) ≡ min (20 + size_with k) (20 + carried_size (carried_given k v sum) + 0)
inside4 Nothing v sum = refl
inside4 other v sum = refl

inside6 : (k : Transport) (v : Field → ℕ) (sum : ℕ) → 0 + carried_size (carried_given k v sum) ≡ min (size_with k) (0 + carried_size (carried_given k v sum) + 0)
inside6 Nothing v sum = refl
inside6 other v sum = refl

arp_fits : (v : Field → ℕ) → IsArp (arp_given v) []
unfolding row_of
arp_fits v = record {
  numbers = (omega arith, (omega arith, (omega arith, (omega arith, (given_small v ArpOp, (given_small v ArpSha, (given_small v ArpSpa, (given_small v ArpTha, (given_small v ArpTpa, tt)))))))));
  hardware = refl;
  protocol = refl;
  hardware_length = refl;
  protocol_length = refl;
  rest_fits = no_bytes;
}

ipv4_fits : (k : Transport) (v : Field → ℕ) (sum : ℕ) → Over4 k → sum < 2 ^ 16 → IsIpv4 (ipv4_given k v) [] (carried_given k v sum) []
unfolding row_of
ipv4_fits k v sum o h = record {
  numbers = (omega arith, (omega arith, (given_small v IpDscp, (given_small v IpEcn, (total_small k, (omega arith, (omega arith, (omega arith, (omega arith, (protocol_small k v, (below _, (given_small v Ipv4Src, (given_small v Ipv4Dst, tt)))))))))))));
  version = refl;
  words = refl;
  total = total_fits k;
  inside = inside4 k v sum;
  options_fit = no_bytes;
  carries = record { there = kind4 k v sum o; numbers = numbers_fit k v sum h; rest = bytes_behind_fit k };
  rest_fits = no_bytes;
}

ipv6_fits : (k : Transport) (v : Field → ℕ) (sum : ℕ) → Over6 k → sum < 2 ^ 16 → IsIpv6 (ipv6_given k v) [] (carried_given k v sum) []
unfolding row_of
ipv6_fits k v sum o h = record {
  numbers = (omega arith, (given_small v IpDscp, (given_small v IpEcn, (given_small v Ipv6Flabel, (payload_small k, (protocol_small k v, (omega arith, (given_small v Ipv6Src, (given_small v Ipv6Dst, tt)))))))));
  version = refl;
  inside = inside6 k v sum;
  chain = (record { there = kind6 k v sum o; numbers = numbers_fit k v sum h; rest = bytes_behind_fit k }, no_extension k v);
  rest_fits = no_bytes;
}

-- no bytes are a packet
no_packet_by : (a b c : Bool) → ((a && false) || (b && false) || (c && false)) ≡ false
no_packet_by true true true = refl
no_packet_by true true false = refl
no_packet_by true false true = refl
no_packet_by true false false = refl
no_packet_by false true true = refl
no_packet_by false true false = refl
no_packet_by false false true = refl
no_packet_by false false false = refl

no_packet : (type : ℕ) → has_packet type [] ≡ false
no_packet type = no_packet_by (type == 0x0806) (type == 0x0800) (type == 0x86dd)

body_fits : (s : Shape) (v : Field → ℕ) → IsBody (type_given s v) (body_given s v)
body_fits shapes.Bare v = (no_bytes, no_packet (type_given shapes.Bare v))
body_fits shapes.Arp v = (refl, arp_fits v)
body_fits shapes.Ipv4 v = (refl, ipv4_fits Nothing v (carried_checksum (ipv4_sum Nothing v) Nothing v) tt (checksum_small (ipv4_sum Nothing v) Nothing v))
body_fits shapes.Ipv4Tcp v = (refl, ipv4_fits Tcp v (carried_checksum (ipv4_sum Tcp v) Tcp v) tt (checksum_small (ipv4_sum Tcp v) Tcp v))
body_fits shapes.Ipv4Udp v = (refl, ipv4_fits Udp v (carried_checksum (ipv4_sum Udp v) Udp v) tt (checksum_small (ipv4_sum Udp v) Udp v))
body_fits shapes.Ipv4Icmp v = (refl, ipv4_fits Icmpv4 v (carried_checksum (ipv4_sum Icmpv4 v) Icmpv4 v) tt (checksum_small (ipv4_sum Icmpv4 v) Icmpv4 v))
body_fits shapes.Ipv6 v = (refl, ipv6_fits Nothing v (carried_checksum (ipv6_sum Nothing v) Nothing v) tt (checksum_small (ipv6_sum Nothing v) Nothing v))
body_fits shapes.Ipv6Tcp v = (refl, ipv6_fits Tcp v (carried_checksum (ipv6_sum Tcp v) Tcp v) tt (checksum_small (ipv6_sum Tcp v) Tcp v))
body_fits shapes.Ipv6Udp v = (refl, ipv6_fits Udp v (carried_checksum (ipv6_sum Udp v) Udp v) tt (checksum_small (ipv6_sum Udp v) Udp v))
body_fits shapes.Ipv6Icmp v = (refl, ipv6_fits Icmpv6 v (carried_checksum (ipv6_sum Icmpv6 v) Icmpv6 v) tt (checksum_small (ipv6_sum Icmpv6 v) Icmpv6 v))

-- ---- the whole

tags_fit : (t : Tagging) (v : Field → ℕ) → AreTags (tags_given t v)
unfolding row_of
tags_fit Untagged v = tt
tags_fit Tagged v = ((omega arith, (given_small v VlanPcp, (omega arith, (omega arith, tt)))), refl, tt)

type_fits : (s : Shape) (v : Field → ℕ) → type_given s v < 2 ^ 16
unfolding row_of
type_fits shapes.Bare v = given_small v EthType
type_fits other v = omega arith

no_tag : {P : Type 0} → false ≡ true → P
no_tag e = absurd cc

last_fits : (s : Shape) (v : Field → ℕ) → is_tag_type (type_given s v) ≡ true → length (encoded (body_cells (body_given s v))) < 32
last_fits shapes.Bare v e = omega arith
last_fits other v e = no_tag e

ends_fit : (v : Field → ℕ) → FitsItems addresses (ends_given v)
unfolding row_of
ends_fit v = (given_small v EthDst, (given_small v EthSrc, tt))

pub layers_fit : (s : Shape) (t : Tagging) (v : Field → ℕ) → IsLayers (layers_given s t v)
layers_fit s t v = record {
  ends = ends_fit v;
  tags = tags_fit t v;
  type = type_fits s v;
  last = last_fits s v;
  body = body_fits s v;
}
