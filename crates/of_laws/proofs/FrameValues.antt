-- The value of a field of well-formed layers has no bit beyond those of the field.
use Rattle.std.proofs.Common.{◌≡◌, ℕ, ◌-◌, ◌^◌, ◌<◌, ◌≤◌, true, List, [], ◌∷◌, length, Option, Some, None, refl, sym, subst, arith}
use Rattle.of_layers.specs.declared.transport.Transport.TheVariants.{Nothing}
use Rattle.of_layers.specs.Layers.{Item, plain, named, Extension, Layers, next_before, addresses, outer_tag, ether_type, arp, ipv4, ipv6, options, fragment, items_of, cells}
use Rattle.of_layers.specs.declared.field.Field.{Field}
use Rattle.of_layers.specs.declared.field.Field.TheVariants.{InPort, Metadata, VlanVid, IpProto}
use Rattle.of_layers.specs.{declared.transport.Transport.Transport, Fields.row_of, Fields.number_of, Fields.bit_count, Fields.ones_of, Looking.look, Reading.layers_of}
use Rattle.of_layers.{specs.WellFormed.AreBytes, specs.WellFormed.IsLayers, proofs.FrameLemmas.are_layers, proofs.Table.ones_is}
use Rattle.of_headers.specs.FieldMap.{field_map, vid}
use Rattle.of_laws.proofs.Widths.{agrees, IsAsWide, layers_within}

-- ---- the bits that a frame has of each field

-- those of VLAN_VID without the one that says that there is a tag
abbrev pub width_of : Field → ℕ
width_of VlanVid = 12
width_of f = bit_count f

-- a header gives a field so many bits
abbrev pub IsRight : List Item → Field → Type 0
IsRight is f = agrees (number_of f) (width_of f) is ≡ true

next_right : (f : Field) (is : Item → List Item) → IsRight (is (named IpProto 8)) f → IsRight (is (plain 8)) f → (es : List Extension) → IsRight (is (next_before es)) f
next_right f is a b [] = a
next_right f is a b (e ∷ es) = b

transport_right : (f : Field) (t : Transport) → IsRight (items_of t) f
unfolding row_of
transport_right f Nothing = refl
transport_right f other = elim f as (IsRight (items_of other)) [ InPort ↦ refl | _ ↦ refl ]

as_wide : (f : Field) → IsAsWide (number_of f) (width_of f)
unfolding row_of
as_wide f = record {
  in_addresses = elim f as (IsRight addresses) [ InPort ↦ refl | _ ↦ refl ];
  in_tag = elim f as (IsRight outer_tag) [ InPort ↦ refl | _ ↦ refl ];
  in_type = elim f as (IsRight ether_type) [ InPort ↦ refl | _ ↦ refl ];
  in_arp = elim f as (IsRight arp) [ InPort ↦ refl | _ ↦ refl ];
  in_ipv4 = elim f as (IsRight ipv4) [ InPort ↦ refl | _ ↦ refl ];
  in_ipv6 = next_right f ipv6 (elim f as (IsRight (ipv6 (named IpProto 8))) [ InPort ↦ refl | _ ↦ refl ]) (elim f as (IsRight (ipv6 (plain 8))) [ InPort ↦ refl | _ ↦ refl ]);
  in_options = next_right f options (elim f as (IsRight (options (named IpProto 8))) [ InPort ↦ refl | _ ↦ refl ]) refl;
  in_fragment = next_right f fragment (elim f as (IsRight (fragment (named IpProto 8))) [ InPort ↦ refl | _ ↦ refl ]) refl;
  in_transport = transport_right f;
}

-- ---- values

seen_below : (l : Layers) → IsLayers l → (f : Field) (v : ℕ) → look f (cells l) ≡ Some v → v < 2 ^ width_of f
seen_below l h f v e = (layers_within (number_of f) (width_of f) (as_wide f) l h).below v e

below_ones : (w v : ℕ) → v < 2 ^ w → v ≤ 2 ^ w - 1
below_ones w v h = omega arith

seen_within : (l : Layers) → IsLayers l → (f : Field) (v : ℕ) → width_of f ≡ bit_count f → look f (cells l) ≡ Some v → v ≤ ones_of f
seen_within l h f v same e = subst (λ k. v ≤ k) (sym (ones_is f)) (below_ones (bit_count f) v (subst (λ w. v < 2 ^ w) same (seen_below l h f v e)))

-- with the bit that says that there is a tag
vid_within : (a : Option ℕ) → ((v : ℕ) → a ≡ Some v → v < 2 ^ 12) → vid a ≤ ones_of VlanVid
unfolding row_of
vid_within None h = omega arith
vid_within (Some v) h = omega (arith, h v refl)

value_within : (l : Layers) (port metadata : ℕ) → IsLayers l → port < 2 ^ 32 → metadata < 2 ^ 64 → (f : Field) (v : ℕ) → field_map l port metadata f ≡ Some v → v ≤ ones_of f
unfolding row_of
value_within l port metadata h a b InPort v e = let same : port ≡ v = cc in omega arith
value_within l port metadata h a b Metadata v e = let same : metadata ≡ v = cc in omega arith
value_within l port metadata h a b VlanVid v e = let same : vid (look VlanVid (cells l)) ≡ v = cc in subst (λ k. k ≤ ones_of VlanVid) same (vid_within (look VlanVid (cells l)) (seen_below l h VlanVid))
value_within l port metadata h a b f v e = seen_within l h f v refl e

pub values_within : (frame : List ℕ) (port metadata : ℕ) → AreBytes frame → 14 ≤ length frame → port < 2 ^ 32 → metadata < 2 ^ 64 → (f : Field) (v : ℕ) → field_map (layers_of frame) port metadata f ≡ Some v → v ≤ ones_of f
values_within frame port metadata bytes long = value_within (layers_of frame) port metadata (are_layers frame bytes long)
