-- Packets of which something is known that has a shape.
use Rattle.std.proofs.Common.{◌≡◌, ℕ, ◌+◌, ◌-◌, ◌*◌, ◌/◌, ◌%◌, ◌^◌, ◌<◌, ◌≤◌, Bool, true, false, cond, Option, Some, None, refl, sym, ap, ◌∙◌, arith, subst, inl, inr}
use Rattle.std.{specs.Prelude.bit_and, specs.Prelude.unwrap_or, specs.Prelude.IfSome, proofs.lemmas.Nat.pow_pos, proofs.lemmas.Nat.and_mask, proofs.lemmas.Nat.Bits.and_pow}
use Rattle.std.proofs.Math.Nat.{mod-eq_of_lt}
use Rattle.of_layers.specs.declared.field.Field.TheVariants.{InPort, Metadata, EthType, VlanVid, VlanPcp, IpProto}
use Rattle.of_layers.specs.{declared.field.Field.Field, Fields.row_of, Fields.bit_count, Fields.ones_of, Fields.prerequisite_of, Reading.layers_of}
use Rattle.of_layers.specs.declared.field.Prerequisite.TheVariants as needs
use Rattle.of_headers.specs.FieldMap.{field_map, seen}
use Rattle.of_frames.specs.Rules.{Obeys, HasShape, IsTagging, has_header, of_tagging, protocol_of, shape_type, valued}
use Rattle.of_frames.specs.Given.{given_number, or_zero, fields_given, vlan_vid_given, vlan_pcp_given}
use Rattle.of_frames.specs.{declared.shape.Shape.Shape, declared.shape.Tagging.Tagging, declared.shape.Tagging.TheVariants.Untagged, declared.shape.Tagging.TheVariants.Tagged}
use Rattle.of_frames.specs.{declared.shape.Rule.TheVariants.Absent, declared.shape.Rule.TheVariants.Under, Knowing.AreWithinBits, Knowing.IsAmong, Knowing.IsKnown, Packets.frame_given}
use Rattle.of_frames.proofs.FrameLemmas.{given_fields}

-- ---- values within the bits of a field

ones_is : (f : Field) → ones_of f ≡ 2 ^ bit_count f - 1
unfolding row_of
ones_is f = elim f as (λ f. ones_of f ≡ 2 ^ bit_count f - 1) [ InPort ↦ refl | _ ↦ refl ]

small : (f : Field) (v : ℕ) → v ≤ ones_of f → v < 2 ^ bit_count f
small f v h = omega (arith, ones_is f, pow_pos (bit_count f))

under_ones : (f : Field) (v : ℕ) → v ≤ ones_of f → bit_and v (ones_of f) ≡ v
under_ones f v h = ap (bit_and v) (ones_is f) ∙ and_mask v (bit_count f) ∙ mod-eq_of_lt (small f v h)

-- ---- values that are known

known_given : (known : Field → Option ℕ) (f : Field) (x : ℕ) → known f ≡ Some x → x ≤ ones_of f → given_number (or_zero known) f ≡ x
known_given known f x e h = ap (λ (o : Option ℕ). unwrap_or o 0 % 2 ^ bit_count f) e ∙ mod-eq_of_lt (small f x h)

is_given : (known : Field → Option ℕ) (f : Field) → IfSome (known f) (λ x. x ≤ ones_of f) → (x : ℕ) → known f ≡ Some x → given_number (or_zero known) f ≡ x
is_given known f w x e = known_given known f x e (subst (λ (o : Option ℕ). IfSome o (λ x. x ≤ ones_of f)) e w)

is_value : (known : Field → Option ℕ) (f : Field) (x : ℕ) → known f ≡ Some x → or_zero known f ≡ x
is_value known f x e = ap (λ (o : Option ℕ). unwrap_or o 0) e

-- ---- rule by rule

by_header : (b : Bool) (o : Option ℕ) (x : ℕ) → Obeys (cond b (Under 0 0) Absent) o → ((v : ℕ) → o ≡ Some v → x ≡ v) → cond b (Some x) None ≡ o
by_header true None x h g = absurd cc
by_header true (Some v) x h g = ap Some (g v refl)
by_header false o x h g = sym h

by_value : (f : Field) (t o : Option ℕ) (x : ℕ) → Obeys (valued f t) o → IfSome o (λ v. v ≤ ones_of f) → ((v : ℕ) → o ≡ Some v → x ≡ v) → Some (unwrap_or t x) ≡ o
by_value f None None x h w g = absurd cc
by_value f None (Some v) x h w g = ap Some (g v refl)
by_value f (Some c) None x h w g = absurd cc
by_value f (Some c) (Some v) x h w g = sym h ∙ ap Some (under_ones f v w)

by_protocol : (b : Bool) (t o : Option ℕ) (x : ℕ) → Obeys (cond b (valued IpProto t) Absent) o → IfSome o (λ v. v ≤ ones_of IpProto) → ((v : ℕ) → o ≡ Some v → x ≡ v) → cond b (Some (unwrap_or t x)) None ≡ o
by_protocol true t o x h w g = by_value IpProto t o x h w g
by_protocol false t o x h w g = sym h

some_same : (a b : ℕ) → Some a ≡ Some b → a ≡ b
some_same a b e = cc

vid_by : (t : Tagging) (o : Option ℕ) (n : Field → ℕ) → Obeys (of_tagging t VlanVid) o → IfSome o (λ v. v ≤ ones_of VlanVid) → ((v : ℕ) → o ≡ Some v → n VlanVid ≡ v) → Some (vlan_vid_given t n) ≡ o
unfolding row_of
vid_by Untagged None n h w g = absurd cc
vid_by Untagged (Some v) n h w g =
    let masked : bit_and v 8191 ≡ 0 = some_same (bit_and v 8191) 0 h in
    let low : bit_and v 8191 ≡ v % 8192 = and_mask v 13 in
    let most : v ≤ 8191 = w in
    let is : 0 ≡ v = omega arith in
    ap Some is
vid_by Tagged None n h w g = absurd cc
vid_by Tagged (Some v) n h w g =
    let masked : bit_and v 4096 ≡ 4096 = some_same (bit_and v 4096) 4096 h in
    let bit : bit_and v 4096 ≡ v / 4096 % 2 * 4096 = and_pow v 12 in
    let most : v ≤ 8191 = w in
    let same : n VlanVid ≡ v = g v refl in
    let is : 4096 + n VlanVid % 4096 ≡ v = omega arith in
    ap Some is

pcp_by : (t : Tagging) (o : Option ℕ) (n : Field → ℕ) → Obeys (of_tagging t VlanPcp) o → ((v : ℕ) → o ≡ Some v → given_number n VlanPcp ≡ v) → vlan_pcp_given t n ≡ o
pcp_by Untagged o n h g = sym h
pcp_by Tagged None n h g = absurd cc
pcp_by Tagged (Some v) n h g = ap Some (g v refl)

-- ---- field by field

abbrev is_tags : Field → Bool
is_tags VlanVid = true
is_tags VlanPcp = true
is_tags other = false

others_known : (s : Shape) (t : Tagging) (k : Field → Option ℕ) (port metadata : ℕ) → HasShape s k → AreWithinBits k → k InPort ≡ Some port → k Metadata ≡ Some metadata →
    (f : Field) → is_tags f ≡ false → fields_given s t (or_zero k) port metadata f ≡ k f
unfolding row_of
others_known s t k port metadata h w p m f = elim f as (λ f. is_tags f ≡ false → fields_given s t (or_zero k) port metadata f ≡ k f) [
  | InPort ↦ λ e. sym p
  | Metadata ↦ λ e. sym m
  | VlanVid ↦ λ e. absurd cc
  | VlanPcp ↦ λ e. absurd cc
  | EthType ↦ λ e. by_value EthType (shape_type s) (k EthType) (given_number (or_zero k) EthType) (h EthType) (w EthType) (is_given k EthType (w EthType))
  | IpProto ↦ λ e. by_protocol (has_header s needs.Ip) (protocol_of s) (k IpProto) (given_number (or_zero k) IpProto) (h IpProto) (w IpProto) (is_given k IpProto (w IpProto))
  | f ↦ λ e. by_header (has_header s (prerequisite_of f)) (k f) (given_number (or_zero k) f) (h f) (is_given k f (w f))
]

vid_known : (t : Tagging) (k : Field → Option ℕ) → AreWithinBits k → IsTagging t k → Some (vlan_vid_given t (or_zero k)) ≡ k VlanVid
unfolding row_of
vid_known t k w h = vid_by t (k VlanVid) (or_zero k) (h VlanVid) (w VlanVid) (is_value k VlanVid)

pcp_known : (t : Tagging) (k : Field → Option ℕ) → AreWithinBits k → IsTagging t k → vlan_pcp_given t (or_zero k) ≡ k VlanPcp
pcp_known t k w h = pcp_by t (k VlanPcp) (or_zero k) (h VlanPcp) (is_given k VlanPcp (w VlanPcp))

hidden : (mask known : Option ℕ) (x : Option ℕ) → mask ≡ None → seen mask known ≡ known → seen mask x ≡ known
hidden None known x e h = h
hidden (Some m) known x e h = absurd cc

-- VLAN_VID and VLAN_PCP, of which all is known or nothing
vid_among : (s : Shape) (t : Tagging) (mask : Field → Option ℕ) (k : Field → Option ℕ) → IsKnown s t mask k → seen (mask VlanVid) (Some (vlan_vid_given t (or_zero k))) ≡ k VlanVid
vid_among s t mask k h = elim h.tags [
  | inl tagging ↦ ap (seen (mask VlanVid)) (vid_known t k h.within tagging) ∙ h.under VlanVid
  | inr nothing ↦ hidden (mask VlanVid) (k VlanVid) (Some (vlan_vid_given t (or_zero k))) nothing.vid (h.under VlanVid)
]

pcp_among : (s : Shape) (t : Tagging) (mask : Field → Option ℕ) (k : Field → Option ℕ) → IsKnown s t mask k → seen (mask VlanPcp) (vlan_pcp_given t (or_zero k)) ≡ k VlanPcp
pcp_among s t mask k h = elim h.tags [
  | inl tagging ↦ ap (seen (mask VlanPcp)) (pcp_known t k h.within tagging) ∙ h.under VlanPcp
  | inr nothing ↦ hidden (mask VlanPcp) (k VlanPcp) (vlan_pcp_given t (or_zero k)) nothing.pcp (h.under VlanPcp)
]

given_among : (s : Shape) (t : Tagging) (mask : Field → Option ℕ) (k : Field → Option ℕ) (port metadata : ℕ) → IsKnown s t mask k → k InPort ≡ Some port → k Metadata ≡ Some metadata →
    (f : Field) → seen (mask f) (fields_given s t (or_zero k) port metadata f) ≡ k f
given_among s t mask k port metadata h p m f = elim f as (λ f. seen (mask f) (fields_given s t (or_zero k) port metadata f) ≡ k f) [
  | VlanVid ↦ vid_among s t mask k h
  | VlanPcp ↦ pcp_among s t mask k h
  | f ↦ ap (seen (mask f)) (others_known s t k port metadata h.shape h.within p m f refl) ∙ h.under f
]

pub among : (s : Shape) (t : Tagging) (mask : Field → Option ℕ) (k : Field → Option ℕ) (port metadata : ℕ) → IsKnown s t mask k → k InPort ≡ Some port → k Metadata ≡ Some metadata →
    IsAmong mask k (field_map (layers_of (frame_given s t (or_zero k))) port metadata)
among s t mask k port metadata h p m =
    subst (λ (map : Field → Option ℕ). IsAmong mask k map) (sym (given_fields s t (or_zero k) port metadata)) (given_among s t mask k port metadata h p m)
