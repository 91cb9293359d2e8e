-- The layers of a frame, computed from its bytes.
use Rattle.std.specs.Prelude.{ℕ, zero, suc, ◌+◌, ◌*◌, ◌/◌, ◌%◌, Bool, not, ◌&&◌, ◌||◌, ◌==◌, nat_le, if◌then◌else◌, List, [], ◌∷◌, length, take, drop, slice_index}
use Rattle.of_layers.specs.declared.transport.Transport.TheVariants.{Nothing, Tcp, Udp, Icmpv4, Icmpv6}
use Rattle.of_layers.specs.Layers.{Carried, Extension, Options, Fragment, Body, Plain, Arp, Ipv4, Ipv6, Layers, size_of}
use Rattle.of_layers.specs.declared.transport.Transport.{Transport}

-- ---- bytes as a number, from place i on

abbrev pub word : List ℕ → ℕ → ℕ
word s i = 256 * slice_index s i + slice_index s (i + 1)

abbrev pub double : List ℕ → ℕ → ℕ
double s i = 65536 * word s i + word s (i + 2)

abbrev pub six : List ℕ → ℕ → ℕ
six s i = 65536 * double s i + word s (i + 4)

abbrev pub eight : List ℕ → ℕ → ℕ
eight s i = 4294967296 * double s i + double s (i + 4)

abbrev pub sixteen : List ℕ → ℕ → ℕ
sixteen s i = 18446744073709551616 * eight s i + eight s (i + 8)

-- ---- tags

-- the types of a VLAN tag: customer and service (IEEE 802.1Q, 9.5)
abbrev pub is_tag_type : ℕ → Bool
is_tag_type t = t == 0x8100 || t == 0x88a8

-- how many tags the bytes begin with; the type of a tag has four bytes after it
abbrev pub tag_count : List ℕ → ℕ
tag_count (a ∷ b ∷ c ∷ d ∷ e ∷ f ∷ rest) = if is_tag_type (256 * a + b) then suc (tag_count (e ∷ f ∷ rest)) else 0
tag_count s = 0

-- type, PCP, DEI, VID
abbrev pub tag_numbers : List ℕ → List ℕ
tag_numbers s = word s 0 ∷ (word s 2 / 8192) ∷ (word s 2 / 4096 % 2) ∷ (word s 2 % 4096) ∷ []

abbrev pub tags_of : ℕ → List ℕ → List (List ℕ)
tags_of zero s = []
tags_of (suc n) s = tag_numbers s ∷ tags_of n (drop 4 s)

-- ---- what an IP packet carries

-- by the protocol's number (IANA, Protocol Numbers)
abbrev pub over_ipv4 : ℕ → Transport
over_ipv4 protocol = if protocol == 6 then Tcp else if protocol == 17 then Udp else if protocol == 1 then Icmpv4 else Nothing

abbrev pub over_ipv6 : ℕ → Transport
over_ipv6 protocol = if protocol == 6 then Tcp else if protocol == 17 then Udp else if protocol == 58 then Icmpv6 else Nothing

-- there is a header where n bytes hold the whole of it
abbrev pub whole_in : Transport → ℕ → Transport
whole_in kind n = if nat_le (size_of kind) n then kind else Nothing

unfoldable pub numbers_of : Transport → List ℕ → List ℕ
numbers_of Nothing s = []
numbers_of Tcp s = word s 0 ∷ word s 2 ∷ double s 4 ∷ double s 8 ∷ word s 12 ∷ word s 14 ∷ word s 16 ∷ word s 18 ∷ []
numbers_of Udp s = word s 0 ∷ word s 2 ∷ word s 4 ∷ word s 6 ∷ []
numbers_of Icmpv4 s = slice_index s 0 ∷ slice_index s 1 ∷ word s 2 ∷ []
numbers_of Icmpv6 s = slice_index s 0 ∷ slice_index s 1 ∷ word s 2 ∷ []

abbrev pub carried_as : Transport → List ℕ → Carried
carried_as kind s = record { kind = kind; numbers = numbers_of kind s; rest = drop (size_of kind) s }

-- what bytes carry where this kind is named
abbrev pub carried_of : Transport → List ℕ → Carried
carried_of kind s = carried_as (whole_in kind (length s)) s

-- ---- ARP

-- for Ethernet and IPv4, and whole
abbrev pub is_arp : List ℕ → Bool
is_arp p = nat_le 28 (length p) && (word p 0 == 1) && (word p 2 == 0x0800) && (slice_index p 4 == 6) && (slice_index p 5 == 4)

abbrev pub arp_numbers : List ℕ → List ℕ
arp_numbers p = word p 0 ∷ word p 2 ∷ slice_index p 4 ∷ slice_index p 5 ∷ word p 6 ∷ six p 8 ∷ double p 14 ∷ six p 18 ∷ double p 24 ∷ []

unfoldable pub arp_of : List ℕ → Body
arp_of p = Arp (arp_numbers p) (drop 28 p)

-- ---- IPv4

-- how many bytes the header has
abbrev pub header_size : List ℕ → ℕ
header_size p = 4 * (slice_index p 0 % 16)

-- version 4, a whole header of at least 20 bytes, and a total length that holds it
abbrev pub is_ipv4 : List ℕ → Bool
is_ipv4 p = nat_le 20 (length p) && ((slice_index p 0 / 16) == 4) && nat_le 20 (header_size p) && nat_le (header_size p) (length p) && nat_le (header_size p) (word p 2)

abbrev pub ipv4_numbers : List ℕ → List ℕ
ipv4_numbers p = (slice_index p 0 / 16) ∷ (slice_index p 0 % 16) ∷ (slice_index p 1 / 4) ∷ (slice_index p 1 % 4) ∷ word p 2 ∷ word p 4 ∷ (word p 6 / 8192) ∷ (word p 6 % 8192) ∷ slice_index p 8 ∷ slice_index p 9 ∷ word p 10 ∷ double p 12 ∷ double p 16 ∷ []

-- a later fragment carries bytes alone
abbrev pub kind_behind : ℕ → Transport → Transport
kind_behind offset kind = if offset == 0 then kind else Nothing

-- the bytes after the header, within the total length and the frame
abbrev pub ipv4_inside : List ℕ → List ℕ
ipv4_inside p = drop (header_size p) (take (word p 2) p)

abbrev pub ipv4_kind : List ℕ → Transport
ipv4_kind p = kind_behind (word p 6 % 8192) (over_ipv4 (slice_index p 9))

unfoldable pub ipv4_of : List ℕ → Body
ipv4_of p = Ipv4 (ipv4_numbers p) (drop 20 (take (header_size p) p)) (carried_of (ipv4_kind p) (ipv4_inside p)) (drop (word p 2) p)

-- ---- IPv6

abbrev pub is_ipv6 : List ℕ → Bool
is_ipv6 p = nat_le 40 (length p) && ((slice_index p 0 / 16) == 6)

abbrev pub ipv6_numbers : List ℕ → List ℕ
ipv6_numbers p = (slice_index p 0 / 16) ∷ (word p 0 / 64 % 64) ∷ (word p 0 / 16 % 4) ∷ (double p 0 % 1048576) ∷ word p 4 ∷ slice_index p 6 ∷ slice_index p 7 ∷ sixteen p 8 ∷ sixteen p 24 ∷ []

-- hop-by-hop options, routing and destination options
abbrev pub has_options : ℕ → Bool
has_options kind = (kind == 0) || (kind == 43) || (kind == 60)

abbrev pub is_fragment : ℕ → Bool
is_fragment kind = kind == 44

abbrev pub extension_size : ℕ → List ℕ → ℕ
extension_size kind s = if is_fragment kind then 8 else 8 * (slice_index s 1 + 1)

-- the bytes begin with an extension header of this kind, the whole of it
abbrev pub has_extension : ℕ → List ℕ → Bool
has_extension kind s = (is_fragment kind || has_options kind) && nat_le 8 (length s) && nat_le (extension_size kind s) (length s)

-- and it is that of a later fragment
abbrev pub is_later : ℕ → List ℕ → Bool
is_later kind s = is_fragment kind && not ((word s 2 / 8) == 0)

abbrev pub options_numbers : List ℕ → List ℕ
options_numbers s = slice_index s 0 ∷ slice_index s 1 ∷ []

abbrev pub fragment_numbers : List ℕ → List ℕ
fragment_numbers s = slice_index s 0 ∷ slice_index s 1 ∷ (word s 2 / 8) ∷ (word s 2 / 2 % 4) ∷ (word s 2 % 2) ∷ double s 4 ∷ []

abbrev pub extension_of : ℕ → List ℕ → Extension
extension_of kind s = if is_fragment kind then Fragment (fragment_numbers s) else Options (options_numbers s) (drop 2 (take (extension_size kind s) s))

-- extension headers, and what follows them
pub record Chain : Type 0 where
  pub extensions : List Extension
  pub carried : Carried

abbrev pub behind_extension : Extension → Chain → Chain
behind_extension e c = record { extensions = e ∷ c.extensions; carried = c.carried }

-- no extension header: bytes of this kind
abbrev pub ends_as : Transport → List ℕ → Chain
ends_as kind s = record { extensions = []; carried = carried_of kind s }

-- The extension headers that bytes begin with, the first of this kind, at most so many. The kind after them names what is carried; a header that is cut off carries bytes alone, and so does a later fragment.
unfoldable pub chain_of : ℕ → ℕ → List ℕ → Chain
chain_of zero kind s = ends_as (over_ipv6 kind) s
chain_of (suc most) kind s =
    if has_extension kind s then
    behind_extension (extension_of kind s)
    (if is_later kind s then ends_as Nothing (drop 8 s) else chain_of most (slice_index s 0) (drop (extension_size kind s) s))
    else ends_as (over_ipv6 kind) s

-- the bytes after the header, within the payload length and the frame
abbrev pub ipv6_inside : List ℕ → List ℕ
ipv6_inside p = drop 40 (take (40 + word p 4) p)

-- each extension header has bytes, so there are at most as many of them
abbrev pub ipv6_chain : List ℕ → Chain
ipv6_chain p = chain_of (length (ipv6_inside p)) (slice_index p 6) (ipv6_inside p)

unfoldable pub ipv6_of : List ℕ → Body
ipv6_of p = Ipv6 (ipv6_numbers p) (ipv6_chain p).extensions (ipv6_chain p).carried (drop (40 + word p 4) p)

-- ---- the frame

-- what follows a type
unfoldable pub body_of : ℕ → List ℕ → Body
body_of type p =
    if (type == 0x0806) && is_arp p then arp_of p
    else if (type == 0x0800) && is_ipv4 p then ipv4_of p
    else if (type == 0x86dd) && is_ipv6 p then ipv6_of p
    else Plain p

unfoldable pub layers_of : List ℕ → Layers
layers_of frame =
    let n = tag_count (drop 12 frame) in
    let at = 12 + 4 * n in
    record { ends = six frame 0 ∷ six frame 6 ∷ []; tags = tags_of n (drop 12 frame); type = word frame at; body = body_of (word frame at) (drop (at + 2) frame) }
