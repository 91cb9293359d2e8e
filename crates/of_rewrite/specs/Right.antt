-- Correct checksums, which sum up to all ones with all the words that they cover (RFC 1071, 1), and by how much others are off.
use Rattle.std.specs.Prelude.{ℕ, ◌≡◌, ◌<◌, ◌%◌, Bool, false, IsTrue, ◌||◌, ◌==◌, List, ◌++◌, sum, Option, Some, None}
use Rattle.of_layers.specs.declared.transport.Transport.TheVariants.{Nothing, Tcp, Udp, Icmpv4, Icmpv6}
use Rattle.of_layers.specs.{declared.transport.Transport.Transport, Layers.Body, Layers.Ipv4, Layers.checksum, Looking.look_up, Reading.layers_of}
use Rattle.of_rewrite.specs.{Checksum.sums_to_ones, Rewriting.words, Rewriting.header_cover, Rewriting.address_cover, Rewriting.carried_cover}

-- that of the IPv4 header (RFC 791, 3.1)
abbrev pub header_is_right : Body → Bool
header_is_right b = sums_to_ones (words (header_cover b))

-- of UDP over IPv4 a checksum of 0 says that none was computed (RFC 768)
abbrev pub is_left_out : Transport → Option ℕ → Bool
is_left_out Udp (Some c) = c == 0
is_left_out Udp None = false
is_left_out Nothing c = false
is_left_out Tcp c = false
is_left_out Icmpv4 c = false
is_left_out Icmpv6 c = false

abbrev pub left_out : Body → Bool
left_out (Ipv4 ns opts carried rest) = is_left_out carried.kind (look_up checksum (carried_cover (Ipv4 ns opts carried rest)))
left_out other = false

-- That of what an IP packet carries. Beside the addresses and its header it covers more words, which no action changes: the protocol and the length (RFC 768; RFC 8200, 8.1; RFC 9293, 3.1), and the bytes after its header. The addresses are the header's own, also where an IPv6 routing header names another destination.
abbrev pub carried_is_right : List ℕ → Body → Bool
carried_is_right more b = left_out b || sums_to_ones (more ++ (words (address_cover b) ++ words (carried_cover b)))

-- Of two frames: where the checksums of the first are right, those of the second are. Some of the further words is not 0, as the protocol.
abbrev pub StayRight : List ℕ → List ℕ → Type 0
StayRight old new =
    (IsTrue (header_is_right (layers_of old).body) → IsTrue (header_is_right (layers_of new).body))
    × ((more : List ℕ) → 0 < sum more → IsTrue (carried_is_right more (layers_of old).body) → IsTrue (carried_is_right more (layers_of new).body))

-- ---- checksums that are wrong

-- What a checksum and the words that it covers sum up to, modulo 65535 as sums in one's complement are: 0 where it is right, and else by how much it is off.
abbrev pub header_off : Body → ℕ
header_off b = sum (words (header_cover b)) % 65535

abbrev pub carried_off : List ℕ → Body → ℕ
carried_off more b = sum (more ++ (words (address_cover b) ++ words (carried_cover b))) % 65535

-- Of two frames: each checksum of the second is off by as much as that of the first, unless it is left out. It is left out where that of the first is.
abbrev pub StayOff : List ℕ → List ℕ → Type 0
StayOff old new =
    (header_off (layers_of new).body ≡ header_off (layers_of old).body)
    × ((more : List ℕ) → left_out (layers_of old).body ≡ false → carried_off more (layers_of new).body ≡ carried_off more (layers_of old).body)
    × (left_out (layers_of new).body ≡ left_out (layers_of old).body)
