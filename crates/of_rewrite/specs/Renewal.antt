-- For contracts inside this crate: the checksums of a frame, with their places and what they cover, as they are read and written back.
use Rattle.std.specs.Prelude.{ℕ, ◌+◌, ◌*◌, ◌/◌, ◌≤◌, Bool, true, false, not, ◌&&◌, ◌||◌, ◌==◌, if◌then◌else◌, List, Option, Some, None}
use Rattle.of_layers.specs.declared.transport.Transport.TheVariants.{Nothing, Tcp, Udp, Icmpv4, Icmpv6}
use Rattle.of_layers.specs.{declared.transport.Transport.Transport, Layers.size_of, Reading.word}
use Rattle.of_headers.specs.{declared.layout.Layout.Layout, declared.layout.Network.Network}
use Rattle.of_headers.specs.declared.layout.Network.TheVariants.{Plain, Arp, Ipv4, Ipv6}
use Rattle.of_rewrite.specs.{declared.sums.Sum.Sum, declared.sums.Sums.Sums, declared.sums.Span.Span, Checksum.never_zero, Rewriting.without_addresses, Spans.with_word}

-- ---- spans of a frame's words, by where its layers begin

abbrev pub span : ℕ → ℕ → Span
span at n = record { at = at; words = n }

abbrev pub no_words : Span
no_words = span 0 0

-- after two addresses, the tags and a type
abbrev pub packet_at : Layout → ℕ
packet_at l = 14 + 4 * l.tags

-- the IPv4 header with its options (RFC 791, 3.1)
abbrev pub header_span : ℕ → Network → Span
header_span at (Ipv4 p) = span at (p.at / 2)
header_span at other = no_words

-- the addresses begin at byte 12 of an IPv4 header, and at byte 8 of an IPv6 header
abbrev pub address_span : ℕ → Network → Span
address_span at Plain = no_words
address_span at Arp = no_words
address_span at (Ipv4 p) = if without_addresses p.transport then no_words else span (at + 12) 4
address_span at (Ipv6 named p) = if without_addresses p.transport then no_words else span (at + 8) 16

-- the header of what the packet carries
abbrev pub carried_span : ℕ → Network → Span
carried_span at Plain = no_words
carried_span at Arp = no_words
carried_span at (Ipv4 p) = span (at + p.at) (size_of p.transport / 2)
carried_span at (Ipv6 named p) = span (at + p.at) (size_of p.transport / 2)

-- the byte of the checksum in the header of what an IP packet carries
abbrev pub checksum_byte : Transport → Option ℕ
checksum_byte Nothing = None
checksum_byte Tcp = Some 16
checksum_byte Udp = Some 6
checksum_byte Icmpv4 = Some 2
checksum_byte Icmpv6 = Some 2

-- a word, if there is one
abbrev pub word_or_zero : List ℕ → Option ℕ → ℕ
word_or_zero s None = 0
word_or_zero s (Some at) = word s at

abbrev pub moved : ℕ → Option ℕ → Option ℕ
moved at None = None
moved at (Some n) = Some (at + n)

abbrev pub header_checksum_at : ℕ → Network → Option ℕ
header_checksum_at at (Ipv4 p) = Some (at + 10)
header_checksum_at at other = None

abbrev pub carried_at : ℕ → Network → Option ℕ
carried_at at Plain = None
carried_at at Arp = None
carried_at at (Ipv4 p) = moved (at + p.at) (checksum_byte p.transport)
carried_at at (Ipv6 named p) = moved (at + p.at) (checksum_byte p.transport)

-- the byte of IPv4's TTL or of IPv6's hop limit
abbrev pub ttl_at : ℕ → Network → Option ℕ
ttl_at at Plain = None
ttl_at at Arp = None
ttl_at at (Ipv4 p) = Some (at + 8)
ttl_at at (Ipv6 named p) = Some (at + 7)

abbrev pub sums_of : Layout → List ℕ → Sums
sums_of l s = record {
  header = record { value = word_or_zero s (header_checksum_at (packet_at l) l.network); differs = false; front = header_span (packet_at l) l.network; back = no_words };
  carried = record { value = word_or_zero s (carried_at (packet_at l) l.network); differs = false; front = address_span (packet_at l) l.network; back = carried_span (packet_at l) l.network };
}

-- what is written where the checksum was c
abbrev pub is_udp : Transport → Bool
is_udp Udp = true
is_udp other = false

abbrev pub settled : Bool → Transport → ℕ → Sum → ℕ
settled may_lack kind c m =
    if is_udp kind then (if (may_lack && (c == 0)) || not m.differs then c else never_zero m.value) else m.value

abbrev pub written_at : Option ℕ → ℕ → List ℕ → List ℕ
written_at None w s = s
written_at (Some at) w s = with_word at w s

abbrev pub settled_in : Network → ℕ → Sum → ℕ
settled_in Plain c m = m.value
settled_in Arp c m = m.value
settled_in (Ipv4 p) c m = settled true p.transport c m
settled_in (Ipv6 named p) c m = settled false p.transport c m

abbrev pub with_header : Layout → Sums → List ℕ → List ℕ
with_header l m s = written_at (header_checksum_at (packet_at l) l.network) m.header.value s

abbrev pub with_carried : Layout → Sums → List ℕ → List ℕ
with_carried l m s = written_at (carried_at (packet_at l) l.network) (settled_in l.network (word_or_zero s (carried_at (packet_at l) l.network)) m.carried) s

-- the IP layers of a frame of n bytes are within it
abbrev pub HasRoomIn : ℕ → ℕ → Network → Type 0
HasRoomIn n at Plain = Unit {0}
HasRoomIn n at Arp = Unit {0}
HasRoomIn n at (Ipv4 p) = (20 ≤ p.at) × (at + p.at + size_of p.transport ≤ n)
HasRoomIn n at (Ipv6 named p) = (40 ≤ p.at) × (at + p.at + size_of p.transport ≤ n)

abbrev pub HasRoom : Layout → ℕ → Type 0
HasRoom l n = (packet_at l ≤ n) × HasRoomIn n (packet_at l) l.network
