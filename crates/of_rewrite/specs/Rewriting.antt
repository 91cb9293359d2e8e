-- The cells of a frame where one number is replaced, and with it each checksum that covers it (OpenFlow 1.3.5, 5.12).
use Rattle.std.specs.Prelude.{ℕ, ◌/◌, Bool, true, false, if◌then◌else◌, List, [], ◌∷◌, ◌++◌, length, drop}
use Rattle.of_layers.specs.Layers.{Body, Plain, Arp, Ipv4, Ipv6, Layers, Cell, ipv4, ipv6, plain, items_of, cells_in, byte_cells, cells, encoded, header_checksum, checksum}
use Rattle.of_layers.specs.{declared.field.Field.Field, declared.transport.Transport.Transport, declared.transport.Transport.TheVariants.Nothing, declared.transport.Transport.TheVariants.Icmpv4}
use Rattle.of_layers.specs.{Fields.number_of, Looking.name_is}
use Rattle.of_rewrite.specs.Checksum.{words_of, updated, carried_updated}

-- ---- the same cells with one number changed: that in the first cell of the name

abbrev pub change_at : ℕ → (ℕ → ℕ) → List Cell → List Cell
change_at n f [] = []
change_at n f (c ∷ cs) = if name_is n c.name then record c { value = f c.value } ∷ cs else c ∷ change_at n f cs

abbrev pub replace_at : ℕ → ℕ → List Cell → List Cell
replace_at n v = change_at n (λ x. v)

-- ---- what the checksums cover of all that can be replaced. Words that are never replaced, as those of the payload and of the lengths, make no difference to them.

-- the words of 16 bits that cells encode
abbrev pub words : List Cell → List ℕ
words cs = words_of (length (encoded cs) / 16) (encoded cs)

-- the IPv4 header with its options (RFC 791, 3.1)
abbrev pub header_cover : Body → List Cell
header_cover (Ipv4 ns opts carried rest) = cells_in ipv4 ns ++ byte_cells opts
header_cover other = []

-- ICMP over IPv4 leaves the addresses out (RFC 792); TCP, UDP and ICMPv6 take them in (RFC 9293, 3.1; RFC 768; RFC 4443, 2.3)
abbrev pub without_addresses : Transport → Bool
without_addresses Nothing = true
without_addresses Icmpv4 = true
without_addresses other = false

-- the addresses are the numbers from 11 on of an IPv4 header, and from 7 on of an IPv6 header
abbrev pub address_cover : Body → List Cell
address_cover (Plain rest) = []
address_cover (Arp ns rest) = []
address_cover (Ipv4 ns opts carried rest) = if without_addresses carried.kind then [] else drop 11 (cells_in ipv4 ns)
address_cover (Ipv6 ns extensions carried rest) = if without_addresses carried.kind then [] else drop 7 (cells_in (ipv6 (plain 8)) ns)

-- the header of what the packet carries
abbrev pub carried_cover : Body → List Cell
carried_cover (Plain rest) = []
carried_cover (Arp ns rest) = []
carried_cover (Ipv4 ns opts carried rest) = cells_in (items_of carried.kind) carried.numbers
carried_cover (Ipv6 ns extensions carried rest) = cells_in (items_of carried.kind) carried.numbers

-- how the checksum of what is carried is updated: over IPv4 that of UDP is optional
abbrev pub checksum_rule : Body → ℕ → List ℕ → List ℕ → ℕ
checksum_rule (Plain rest) = updated
checksum_rule (Arp ns rest) = updated
checksum_rule (Ipv4 ns opts carried rest) = carried_updated true carried.kind
checksum_rule (Ipv6 ns extensions carried rest) = carried_updated false carried.kind

-- ---- the whole

-- the checksum of the IPv4 header, where the number n in it becomes v
abbrev pub header_updated : Body → ℕ → ℕ → ℕ → ℕ
header_updated b n v c = updated c (words (header_cover b)) (words (replace_at n v (header_cover b)))

-- that of what an IP packet carries
abbrev pub carried_after : Body → ℕ → ℕ → ℕ → ℕ
carried_after b n v c = checksum_rule b c (words (address_cover b) ++ words (carried_cover b)) (words (replace_at n v (address_cover b)) ++ words (replace_at n v (carried_cover b)))

-- the cells of layers where the number of that name becomes v: without such a number they stay
unfoldable pub number_set : ℕ → ℕ → Layers → List Cell
number_set n v l = change_at checksum (carried_after l.body n v) (change_at header_checksum (header_updated l.body n v) (replace_at n v (cells l)))

-- A cell has the low bits of its number: that of VLAN_VID, a field of 13 bits, the low 12.
abbrev pub field_set : Field → ℕ → Layers → List Cell
field_set f = number_set (number_of f)
