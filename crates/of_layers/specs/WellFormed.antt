-- Which layers a frame can have.
use Rattle.std.specs.Prelude.{◌≡◌, ℕ, ◌+◌, ◌*◌, ◌^◌, ◌<◌, ◌≤◌, min, Bool, true, false, ◌&&◌, ◌||◌, ◌==◌, List, [], ◌∷◌, length, slice_index}
use Rattle.of_layers.specs.Layers.{Item, Layers, addresses, inner_tag, arp, ipv4, ipv6, options, fragment, items_of, size_of, Carried, Extension, Options, Fragment, Body, Plain, Arp, Ipv4, Ipv6, all_bytes, next_before, body_cells, encoded}
use Rattle.of_layers.specs.Reading.{is_tag_type, over_ipv4, over_ipv6, whole_in, kind_behind, has_options, is_fragment, has_extension, is_arp, is_ipv4, is_ipv6}
use Rattle.of_layers.specs.{declared.transport.Transport.Transport, declared.transport.Transport.TheVariants.Nothing}

abbrev pub AreBytes : List ℕ → Type 0
AreBytes s = (i : ℕ) → slice_index s i < 256

-- one number for each item, within its bits
abbrev pub FitsItems : List Item → List ℕ → Type 0
FitsItems [] [] = Unit {0}
FitsItems [] (n ∷ ns) = ⊥
FitsItems (i ∷ is) [] = ⊥
FitsItems (i ∷ is) (n ∷ ns) = (n < 2 ^ i.width) × FitsItems is ns

-- each begins with the type of a tag
abbrev pub AreTags : List (List ℕ) → Type 0
AreTags [] = Unit {0}
AreTags (t ∷ ts) = FitsItems inner_tag t × (is_tag_type (slice_index t 0) ≡ true) × AreTags ts

-- ---- what an IP packet carries

abbrev pub carried_size : Carried → ℕ
carried_size c = size_of c.kind + length c.rest

-- where this kind is named: its header, if there are bytes enough for it
pub record IsCarried (kind : Transport) (c : Carried) : Type 0 where
  pub there : c.kind ≡ whole_in kind (carried_size c)
  pub numbers : FitsItems (items_of c.kind) c.numbers
  pub rest : AreBytes c.rest

-- ---- ARP and IPv4

-- for Ethernet and IPv4
pub record IsArp (ns rest : List ℕ) : Type 0 where
  pub numbers : FitsItems arp ns
  pub hardware : slice_index ns 0 ≡ 1
  pub protocol : slice_index ns 1 ≡ 0x0800
  pub hardware_length : slice_index ns 2 ≡ 6
  pub protocol_length : slice_index ns 3 ≡ 4
  pub rest_fits : AreBytes rest

-- in the numbers: 0 is the version, 1 the header length in words, 4 the total length, 7 the offset, 9 the protocol
pub record IsIpv4 (ns opts : List ℕ) (carried : Carried) (rest : List ℕ) : Type 0 where
  pub numbers : FitsItems ipv4 ns
  pub version : slice_index ns 0 ≡ 4
  pub words : 20 + length opts ≡ 4 * slice_index ns 1
  pub total : 20 + length opts ≤ slice_index ns 4
  pub inside : 20 + length opts + carried_size carried ≡ min (slice_index ns 4) (20 + length opts + carried_size carried + length rest)
  pub options_fit : AreBytes opts
  pub carries : IsCarried (kind_behind (slice_index ns 7) (over_ipv4 (slice_index ns 9))) carried
  pub rest_fits : AreBytes rest

-- ---- IPv6

-- The first of these headers is of this kind. In the numbers: 0 is the next kind; of options 1 is the length; of a fragment 2 is the offset. After a later fragment no header is read.
abbrev pub AreExtensions : ℕ → List Extension → Carried → Type 0
AreExtensions kind [] c = IsCarried (over_ipv6 kind) c × (has_extension kind c.rest ≡ false)
AreExtensions kind (Options ns bytes ∷ es) c =
    (has_options kind ≡ true) × FitsItems (options (next_before es)) ns × (2 + length bytes ≡ 8 * (slice_index ns 1 + 1)) × AreBytes bytes
    × AreExtensions (slice_index ns 0) es c
AreExtensions kind (Fragment ns ∷ es) c =
    (is_fragment kind ≡ true) × FitsItems (fragment (next_before es)) ns
    × ((slice_index ns 2 == 0) ≡ true → AreExtensions (slice_index ns 0) es c)
    × ((slice_index ns 2 == 0) ≡ false → (es ≡ []) × IsCarried Nothing c)

-- in the numbers: 0 is the version, 4 the payload length, 5 the next kind
pub record IsIpv6 (ns : List ℕ) (extensions : List Extension) (carried : Carried) (rest : List ℕ) : Type 0 where
  pub numbers : FitsItems (ipv6 (next_before extensions)) ns
  pub version : slice_index ns 0 ≡ 6
  pub inside : all_bytes extensions + carried_size carried ≡ min (slice_index ns 4) (all_bytes extensions + carried_size carried + length rest)
  pub chain : AreExtensions (slice_index ns 5) extensions carried
  pub rest_fits : AreBytes rest

-- ---- the frame

-- bytes after a type that are read as a packet
abbrev pub has_packet : ℕ → List ℕ → Bool
has_packet type p = ((type == 0x0806) && is_arp p) || ((type == 0x0800) && is_ipv4 p) || ((type == 0x86dd) && is_ipv6 p)

abbrev pub IsBody : ℕ → Body → Type 0
IsBody type (Plain p) = AreBytes p × (has_packet type p ≡ false)
IsBody type (Arp ns rest) = (type ≡ 0x0806) × IsArp ns rest
IsBody type (Ipv4 ns opts carried rest) = (type ≡ 0x0800) × IsIpv4 ns opts carried rest
IsBody type (Ipv6 ns extensions carried rest) = (type ≡ 0x86dd) × IsIpv6 ns extensions carried rest

-- a tag's type that fewer than four bytes follow is the frame's type
pub record IsLayers (l : Layers) : Type 0 where
  pub ends : FitsItems addresses l.ends
  pub tags : AreTags l.tags
  pub type : l.type < 2 ^ 16
  pub last : is_tag_type l.type ≡ true → length (encoded (body_cells l.body)) < 32
  pub body : IsBody l.type l.body
