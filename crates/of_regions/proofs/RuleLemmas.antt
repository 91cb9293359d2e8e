-- What shapes and taggings say about fields, and what matches ask.
use Rattle.std.proofs.Common.{◌≡◌, ℕ, Bool, true, false, cond, eqb, List, [], ◌∷◌, Option, Some, None, refl, subst, arith}
use Rattle.std.{specs.Prelude.bit_and, specs.Prelude.IfSome, specs.Prelude.unwrap_or, specs.List.AllByRecursion, specs.Option.option_map, proofs.lemmas.Bool.eqb-true, proofs.lemmas.Nat.and_le_l}
use Rattle.std.proofs.lemmas.Nat.Bits.{bit_at_and, same_from_bits}
use Rattle.of_layers.specs.declared.field.Field.{Field}
use Rattle.of_layers.specs.declared.field.Field.TheVariants.{EthType, IpProto, VlanPcp, VlanVid}
use Rattle.of_layers.{specs.Fields.number_of, specs.Fields.ones_of, specs.Fields.prerequisite_of, specs.Fields.row_of, proofs.Table.same_number}
use Rattle.of_layers.specs.declared.field.Prerequisite.TheVariants as needs
use Rattle.of_oxm.specs.{declared.match_field.MatchField.MatchField, Masks.first_at, Masks.looked_at, Masks.value_of, NormalForm.IsKept, NormalForm.IsKeptMask}
use Rattle.of_oxm.{specs.Relations.bits_looked_at, proofs.Joined.covered}
use Rattle.of_frames.specs.Rules.{HasShape, Obeys, has_header, protocol_of, shape_type, valued}
use Rattle.of_frames.specs.{declared.shape.Shape.Shape, declared.shape.Tagging.Tagging, declared.shape.Tagging.TheVariants.Untagged, declared.shape.Tagging.TheVariants.Tagged}
use Rattle.of_frames.specs.{declared.shape.Rule.TheVariants.Free, declared.shape.Rule.TheVariants.Absent, declared.shape.Rule.TheVariants.Under}
use Rattle.of_frames.specs.declared.shape.Shape.TheVariants as shapes
use Rattle.of_regions.specs.{Joining.IsAsked, Joining.IsRule, Known.rule_in, Known.tag_rule, Regions.HasTagging}

-- ---- rules

zero_and : (n : ℕ) → bit_and 0 n ≡ 0
zero_and n = omega (arith, and_le_l 0 n)

by_header : (ones : ℕ) (b : Bool) → IsRule ones (cond b (Under 0 0) Absent)
by_header ones true = (zero_and ones, refl)
by_header ones false = tt

by_type : (s : Shape) → IsRule (ones_of EthType) (valued EthType (shape_type s))
unfolding row_of
by_type s = elim s as (λ s. IsRule (ones_of EthType) (valued EthType (shape_type s))) [ shapes.Bare ↦ (refl, refl) | _ ↦ (refl, refl) ]

by_protocol : (s : Shape) → IsRule (ones_of IpProto) (cond (has_header s needs.Ip) (valued IpProto (protocol_of s)) Absent)
unfolding row_of
by_protocol s = elim s as (λ s. IsRule (ones_of IpProto) (cond (has_header s needs.Ip) (valued IpProto (protocol_of s)) Absent)) [
  | shapes.Bare ↦ tt
  | shapes.Arp ↦ tt
  | _ ↦ (refl, refl)
]

by_vid : (t : Option Tagging) → IsRule (ones_of VlanVid) (tag_rule t VlanVid)
unfolding row_of
by_vid None = tt
by_vid (Some Untagged) = (refl, refl)
by_vid (Some Tagged) = (refl, refl)

by_pcp : (t : Option Tagging) → IsRule (ones_of VlanPcp) (tag_rule t VlanPcp)
unfolding row_of
by_pcp None = tt
by_pcp (Some Untagged) = tt
by_pcp (Some Tagged) = (refl, refl)

pub rule_fits : (s : Shape) (t : Option Tagging) (f : Field) → IsRule (ones_of f) (rule_in s t f)
rule_fits s t f = elim f as (λ f. IsRule (ones_of f) (rule_in s t f)) [
  | VlanVid ↦ by_vid t
  | VlanPcp ↦ by_pcp t
  | EthType ↦ by_type s
  | IpProto ↦ by_protocol s
  | f ↦ by_header (ones_of f) (has_header s (prerequisite_of f))
]

-- a field of which nothing is said is one of a tag

pub said_or : (b : Bool) → cond b (Under 0 0) Absent ≡ Free → ⊥
said_or true e = cc
said_or false e = cc

pub type_said : (s : Shape) → valued EthType (shape_type s) ≡ Free → ⊥
unfolding row_of
type_said s = elim s as (λ s. valued EthType (shape_type s) ≡ Free → ⊥) [ shapes.Bare ↦ λ e. cc | _ ↦ λ e. cc ]

pub protocol_said : (s : Shape) → cond (has_header s needs.Ip) (valued IpProto (protocol_of s)) Absent ≡ Free → ⊥
unfolding row_of
protocol_said s = elim s as (λ s. cond (has_header s needs.Ip) (valued IpProto (protocol_of s)) Absent ≡ Free → ⊥) [ shapes.Bare ↦ λ e. cc | _ ↦ λ e. cc ]

pub vid_free : (t : Option Tagging) → tag_rule t VlanVid ≡ Free → t ≡ None
vid_free None e = refl
vid_free (Some Untagged) e = absurd cc
vid_free (Some Tagged) e = absurd cc

pub pcp_free : (t : Option Tagging) → tag_rule t VlanPcp ≡ Free → t ≡ None
pcp_free None e = refl
pcp_free (Some Untagged) e = absurd cc
pcp_free (Some Tagged) e = absurd cc

pub free_unasked : (s : Shape) (t : Option Tagging) (m : List MatchField) → (t ≡ None → (looked_at m VlanVid ≡ None) × (looked_at m VlanPcp ≡ None)) → (f : Field) → rule_in s t f ≡ Free → looked_at m f ≡ None
free_unasked s t m tags f = elim f as (λ f. rule_in s t f ≡ Free → looked_at m f ≡ None) [
  | VlanVid ↦ λ e. (tags (vid_free t e)).0
  | VlanPcp ↦ λ e. (tags (pcp_free t e)).1
  | EthType ↦ λ e. absurd (type_said s e)
  | IpProto ↦ λ e. absurd (protocol_said s e)
  | f ↦ λ e. absurd (said_or (has_header s (prerequisite_of f)) e)
]

-- ---- what a match asks

and_same : (n : ℕ) → bit_and n n ≡ n
and_same n = same_from_bits _ _ (λ i. omega (arith, bit_at_and n n i))

pub mask_within : (f : Field) (v : ℕ) (mask : Option ℕ) → IfSome mask (IsKeptMask f v) → bit_and (unwrap_or mask (ones_of f)) (ones_of f) ≡ unwrap_or mask (ones_of f)
mask_within f v None h = and_same (ones_of f)
mask_within f v (Some m) h = h.within

asked_by : (f : Field) (o : Option MatchField) → IfSome o (λ e. IsKept e × (number_of e.field ≡ number_of f)) → IsAsked (ones_of f) (option_map bits_looked_at o) (option_map (λ e. e.value) o)
asked_by f None h = tt
asked_by f (Some e) h = subst (λ (g : Field). IsAsked (ones_of g) (Some (bits_looked_at e)) (Some e.value)) (same_number e.field f h.1) (mask_within e.field e.value e.mask h.0.mask, covered e h.0)

kept_by : (f : Field) (e : MatchField) (m : List MatchField) (b : Bool) → eqb (number_of e.field) (number_of f) ≡ b → IsKept e → IfSome (first_at m f) (λ x. IsKept x × (number_of x.field ≡ number_of f))
    → IfSome (cond b (Some e) (first_at m f)) (λ x. IsKept x × (number_of x.field ≡ number_of f))
kept_by f e m true t k h = (k, eqb-true _ _ t)
kept_by f e m false t k h = h

first_kept : (f : Field) (m : List MatchField) → AllByRecursion IsKept m → IfSome (first_at m f) (λ e. IsKept e × (number_of e.field ≡ number_of f))
first_kept f [] h = tt
first_kept f (e ∷ m) h = kept_by f e m (eqb (number_of e.field) (number_of f)) refl h.0 (first_kept f m h.1)

pub is_asked : (m : List MatchField) (f : Field) → AllByRecursion IsKept m → IsAsked (ones_of f) (looked_at m f) (value_of m f)
is_asked m f h = asked_by f (first_at m f) (first_kept f m h)

-- ---- packets obey the rules of their shape and their tagging

obeys_tag : (t : Option Tagging) (map : Field → Option ℕ) (f : Field) → HasTagging t map → Obeys (tag_rule t f) (map f)
obeys_tag None map f h = tt
obeys_tag (Some t) map f h = h f

pub obeys : (s : Shape) (t : Option Tagging) (map : Field → Option ℕ) → HasShape s map → HasTagging t map → (f : Field) → Obeys (rule_in s t f) (map f)
obeys s t map h g f = elim f as (λ f. Obeys (rule_in s t f) (map f)) [
  | VlanVid ↦ obeys_tag t map VlanVid g
  | VlanPcp ↦ obeys_tag t map VlanPcp g
  | f ↦ h f
]
