-- The layers of a frame where one number is replaced, and with it each checksum that covers it. Tags, type, extension headers, what is carried and all bytes that no field names stay: no number that is replaced decides the layering.
use Rattle.std.specs.Prelude.{ℕ, ◌≢◌, ◌%◌, ◌^◌, if◌then◌else◌, List, [], ◌∷◌}
use Rattle.of_layers.specs.Layers.{Item, Carried, Body, Plain, Arp, Ipv4, Ipv6, Layers, addresses, outer_tag, arp, ipv4, ipv6, next_before, items_of, header_checksum, checksum}
use Rattle.of_layers.specs.{declared.field.Field.TheVariants.EthType, declared.field.Field.TheVariants.IpProto, Fields.number_of, Looking.name_is}
use Rattle.of_rewrite.specs.Rewriting.{header_updated, carried_after}

-- numbers that can be replaced: all but the checksums
abbrev pub Replaceable : ℕ → Type 0
Replaceable n = (n ≢ header_checksum) × (n ≢ checksum)

-- numbers that decide no layering: all but ETH_TYPE and IP_PROTO
abbrev pub LeavesLayers : ℕ → Type 0
LeavesLayers n = (n ≢ number_of EthType) × (n ≢ number_of IpProto)

-- the numbers of a header, with that of a name changed, to as many bits as it has
abbrev pub numbers_with : ℕ → (ℕ → ℕ) → List Item → List ℕ → List ℕ
numbers_with n f [] ms = ms
numbers_with n f (i ∷ is) [] = []
numbers_with n f (i ∷ is) (m ∷ ms) = if name_is n i.name then (f m % 2 ^ i.width) ∷ ms else m ∷ numbers_with n f is ms

abbrev pub tags_with : ℕ → (ℕ → ℕ) → List (List ℕ) → List (List ℕ)
tags_with n f [] = []
tags_with n f (t ∷ ts) = numbers_with n f outer_tag t ∷ ts

abbrev pub carried_with : ℕ → (ℕ → ℕ) → Carried → Carried
carried_with n f c = record c { numbers = numbers_with n f (items_of c.kind) c.numbers }

abbrev pub body_with : ℕ → (ℕ → ℕ) → Body → Body
body_with n f (Plain rest) = Plain rest
body_with n f (Arp ns rest) = Arp (numbers_with n f arp ns) rest
body_with n f (Ipv4 ns opts carried rest) = Ipv4 (numbers_with n f ipv4 ns) opts (carried_with n f carried) rest
body_with n f (Ipv6 ns extensions carried rest) = Ipv6 (numbers_with n f (ipv6 (next_before extensions)) ns) extensions (carried_with n f carried) rest

abbrev pub layers_with : ℕ → (ℕ → ℕ) → Layers → Layers
layers_with n f l = record { ends = numbers_with n f addresses l.ends; tags = tags_with n f l.tags; type = l.type; body = body_with n f l.body }

-- the layers where the number of that name becomes v
unfoldable pub layers_set : ℕ → ℕ → Layers → Layers
layers_set n v l = layers_with checksum (carried_after l.body n v) (layers_with header_checksum (header_updated l.body n v) (layers_with n (λ x. v) l))
