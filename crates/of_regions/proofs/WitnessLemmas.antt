-- What is known of a region is known of frames of its shape.
use Rattle.std.proofs.Common.{◌≡◌, ℕ, ◌≤◌, true, List, length, Option, Some, None, Ok, Err, refl, sym, ap, ◌∙◌, arith, inl, inr, ◌<◌, ◌^◌, ◌%◌}
use Rattle.std.specs.Prelude.{bit_and, unwrap_or, IfOk, IfSome, Result}
use Rattle.std.{specs.Int.Bits.and_comm, proofs.lemmas.Bool.cases_lt, proofs.lemmas.Nat.and_assoc, proofs.lemmas.Nat.and_le_l, proofs.lemmas.Nat.pow_below, proofs.lemmas.Nat.pow_pos}
use Rattle.std.proofs.lemmas.Grind.{and_numeral}
use Rattle.of_regions.specs.{Dividing.AreWithout, Dividing.IsBitOf, declared.region.Region.Region, Witness.IsFrameIn, Witness.IsIngressPort, Known.AllKnown, Known.is_known_by, Known.rule_in}
use Rattle.of_regions.proofs.{BuildingLemmas.known_within, JoiningLemmas.parts, TaggingLemmas.free_mask}
use Rattle.of_layers.specs.declared.field.Field.{Field}
use Rattle.of_layers.specs.declared.field.Field.TheVariants.{InPort, Metadata, VlanVid, VlanPcp}
use Rattle.of_layers.specs.{Fields.ones_of, Fields.row_of, Layers.Layers, Reading.layers_of}
use Rattle.of_headers.specs.FieldMap.{field_map, seen, value}
use Rattle.of_oxm.specs.Masks.{mask_at}
use Rattle.of_frames.specs.Rules.{HasShape, IsTagging, Obeys, of_shape, of_tagging}
use Rattle.of_frames.specs.{declared.shape.Shape.Shape, declared.shape.Tagging.Tagging, declared.shape.Tagging.TheVariants.Untagged, declared.shape.Tagging.TheVariants.Tagged}
use Rattle.of_frames.specs.{declared.shape.Rule.Rule, declared.shape.Rule.TheVariants.Free, declared.shape.Rule.TheVariants.Absent, declared.shape.Rule.TheVariants.Under, Given.or_zero}
use Rattle.of_frames.specs.{Knowing.IsAmong, Knowing.IsKnown, Packets.frame_given, Packets.frame_size, Packets.layers_given, Packets.tags_given}
use Rattle.of_frames.proofs.KnownLemmas.{among}
use Rattle.of_frames.specs.declared.shape.Shape.TheVariants as shapes
use Rattle.of_rewrite.specs.Frames.{IsFrame}

-- ---- field by field

seen_known : (ones : ℕ) (rule : Rule) (mask known : Option ℕ) → is_known_by ones rule mask known ≡ true → seen mask known ≡ known
seen_known ones Free None None h = refl
seen_known ones Free None (Some k) h = absurd cc
seen_known ones Free (Some m) k h = absurd cc
seen_known ones Absent None k h = absurd cc
seen_known ones Absent (Some m) None h = refl
seen_known ones Absent (Some m) (Some k) h = absurd cc
seen_known ones (Under bits said) None k h = absurd cc
seen_known ones (Under bits said) (Some m) None h = absurd cc
seen_known ones (Under bits said) (Some m) (Some k) h = ap Some (parts ones bits said m k h).under

obeys_known : (ones : ℕ) (rule : Rule) (mask known : Option ℕ) → is_known_by ones rule mask known ≡ true → Obeys rule known
obeys_known ones Free mask known h = tt
obeys_known ones Absent None k h = absurd cc
obeys_known ones Absent (Some m) None h = refl
obeys_known ones Absent (Some m) (Some k) h = absurd cc
obeys_known ones (Under bits said) None k h = absurd cc
obeys_known ones (Under bits said) (Some m) None h = absurd cc
obeys_known ones (Under bits said) (Some m) (Some k) h = ap Some (parts ones bits said m k h).said

-- a field of which something is known, and that is there
pub record IsBoth (mask known : Option ℕ) : Type 0 where
  pub bits : ℕ
  pub mask_is : mask ≡ Some bits
  pub value : ℕ
  pub known_is : known ≡ Some value

both_known : (ones bits said : ℕ) (mask known : Option ℕ) → is_known_by ones (Under bits said) mask known ≡ true → IsBoth mask known
both_known ones bits said None k h = absurd cc
both_known ones bits said (Some m) None h = absurd cc
both_known ones bits said (Some m) (Some k) h = record { bits = m; mask_is = refl; value = k; known_is = refl }

-- ---- all fields

module _ (s : Shape) (masks known : Field → Option ℕ) where
  shape_known : (t : Option Tagging) → AllKnown s t masks known → HasShape s known
  shape_known t each f = (elim f as (λ f. is_known_by (ones_of f) (rule_in s t f) (masks f) (known f) ≡ true → Obeys (of_shape s f) (known f)) [
    | VlanVid ↦ λ h. tt
    | VlanPcp ↦ λ h. tt
    | f ↦ λ h. obeys_known (ones_of f) (of_shape s f) (masks f) (known f) h
  ]) (each f)

  tags_known : (t : Tagging) → AllKnown s (Some t) masks known → IsTagging t known
  tags_known Untagged each f = (elim f as (λ f. is_known_by (ones_of f) (rule_in s (Some Untagged) f) (masks f) (known f) ≡ true → Obeys (of_tagging Untagged f) (known f)) [
    | VlanVid ↦ λ h. obeys_known (ones_of VlanVid) (of_tagging Untagged VlanVid) (masks VlanVid) (known VlanVid) h
    | VlanPcp ↦ λ h. obeys_known (ones_of VlanPcp) (of_tagging Untagged VlanPcp) (masks VlanPcp) (known VlanPcp) h
    | f ↦ λ h. tt
  ]) (each f)
  tags_known Tagged each f = (elim f as (λ f. is_known_by (ones_of f) (rule_in s (Some Tagged) f) (masks f) (known f) ≡ true → Obeys (of_tagging Tagged f) (known f)) [
    | VlanVid ↦ λ h. obeys_known (ones_of VlanVid) (of_tagging Tagged VlanVid) (masks VlanVid) (known VlanVid) h
    | VlanPcp ↦ λ h. obeys_known (ones_of VlanPcp) (of_tagging Tagged VlanPcp) (masks VlanPcp) (known VlanPcp) h
    | f ↦ λ h. tt
  ]) (each f)

  pub is_known : (t : Option Tagging) → AllKnown s t masks known → IsKnown s (unwrap_or t Untagged) masks known
  is_known None each = record {
    under = λ f. seen_known (ones_of f) (rule_in s None f) (masks f) (known f) (each f);
    within = λ f. (known_within (ones_of f) (rule_in s None f) (masks f) (known f) (each f)).1;
    shape = shape_known None each;
    tags = inr (record { untagged = refl; vid = free_mask (ones_of VlanVid) (masks VlanVid) (known VlanVid) (each VlanVid); pcp = free_mask (ones_of VlanPcp) (masks VlanPcp) (known VlanPcp) (each VlanPcp) });
  }
  is_known (Some t) each = record {
    under = λ f. seen_known (ones_of f) (rule_in s (Some t) f) (masks f) (known f) (each f);
    within = λ f. (known_within (ones_of f) (rule_in s (Some t) f) (masks f) (known f) (each f)).1;
    shape = shape_known (Some t) each;
    tags = inl (tags_known t each);
  }

  -- each region says a port and metadata
  pub port_known : (t : Option Tagging) → AllKnown s t masks known → IsBoth (masks InPort) (known InPort)
  unfolding row_of
  port_known t each = both_known (ones_of InPort) 0 0 (masks InPort) (known InPort) (each InPort)

  pub metadata_known : (t : Option Tagging) → AllKnown s t masks known → IsBoth (masks Metadata) (known Metadata)
  unfolding row_of
  metadata_known t each = both_known (ones_of Metadata) 0 0 (masks Metadata) (known Metadata) (each Metadata)

  pub metadata_small : (t : Option Tagging) → AllKnown s t masks known → IfSome (known Metadata) (λ n. n ≤ 0xffffffffffffffff)
  unfolding row_of
  metadata_small t each = (known_within (ones_of Metadata) (rule_in s t Metadata) (masks Metadata) (known Metadata) (each Metadata)).1

  pub field_under : (t : Option Tagging) → AllKnown s t masks known → (f : Field) → seen (masks f) (known f) ≡ known f
  field_under t each f = seen_known (ones_of f) (rule_in s t f) (masks f) (known f) (each f)

-- ---- another port and other metadata

pub at_port : (masks known : Field → Option ℕ) (l : Layers) (p q a b : ℕ) → IsAmong masks known (field_map l p a) → seen (masks InPort) (Some q) ≡ known InPort → seen (masks Metadata) (Some b) ≡ known Metadata → IsAmong masks known (field_map l q b)
at_port masks known l p q a b h port meta f = elim f as (λ f. seen (masks f) (field_map l q b f) ≡ known f) [
  | InPort ↦ port
  | Metadata ↦ meta
  | f ↦ h f
]

-- ---- sizes

pub few_bytes : (s : Shape) (t : Tagging) → frame_size s t ≤ 1500
few_bytes s Untagged = elim s as (λ s. frame_size s Untagged ≤ 1500) [ shapes.Bare ↦ omega arith | _ ↦ omega arith ]
few_bytes s Tagged = elim s as (λ s. frame_size s Tagged ≤ 1500) [ shapes.Bare ↦ omega arith | _ ↦ omega arith ]

few_tags : (t : Tagging) (v : Field → ℕ) → length (tags_given t v) ≤ 1
few_tags Untagged v = omega arith
few_tags Tagged v = omega arith

-- ---- the frame of a region

pub frame_in : (r : Region) (frame : List ℕ) → IsFrame frame → length frame ≡ frame_size r.shape (unwrap_or r.tagging Untagged) → layers_of frame ≡ layers_given r.shape (unwrap_or r.tagging Untagged) (or_zero (value r.known)) →
    frame ≡ frame_given r.shape (unwrap_or r.tagging Untagged) (or_zero (value r.known)) → IsFrameIn r frame
frame_in r frame is size layers bytes = record {
  frame_is = is;
  short = record { tags = rw layers (few_tags (unwrap_or r.tagging Untagged) (or_zero (value r.known))); bytes = rw size (few_bytes r.shape (unwrap_or r.tagging Untagged)) };
  within = λ port metadata p m.
      let a = port_known r.shape (mask_at r.masks) (value r.known) r.tagging r.each in
      let b = metadata_known r.shape (mask_at r.masks) (value r.known) r.tagging r.each in
      let known = is_known r.shape (mask_at r.masks) (value r.known) r.tagging r.each in
      let there : IsAmong (mask_at r.masks) (value r.known) (field_map (layers_of frame) a.value b.value) =
      rw bytes (among r.shape (unwrap_or r.tagging Untagged) (mask_at r.masks) (value r.known) a.value b.value known a.known_is b.known_is) in
      at_port (mask_at r.masks) (value r.known) (layers_of frame) a.value port b.value metadata there p m;
}

pub if_ok : {T E : Type 0} (r : Result T E) (P Q R S U : T → Type 0) → IfOk r P → IfOk r Q → IfOk r R → IfOk r S → ((x : T) → P x → Q x → R x → S x → U x) → IfOk r U
if_ok (Ok x) P Q R S U p q h s f = f x p q h s
if_ok (Err e) P Q R S U p q h s f = tt

-- ---- ports

and_zero : (n : ℕ) → bit_and n 0 ≡ 0
and_zero n = and_comm n 0 ∙ omega (arith, and_le_l 0 n)

pub outside : (bits mask rest port : ℕ) → AreWithout bits mask rest → IsBitOf rest port → bit_and port mask ≡ 0
outside bits mask rest port w b = ap (λ (n : ℕ). bit_and n mask) (sym b.among) ∙ and_assoc mask port rest ∙ ap (bit_and port) w.none ∙ and_zero port

low : (n : ℕ) → bit_and n 0xffffffff ≡ n % 2 ^ 32
low n = and_numeral n 0xfffffffe refl

bit_low : (mask rest port : ℕ) → AreWithout 0xffffffff mask rest → IsBitOf rest port → port < 2 ^ 32
bit_low mask rest port w b =
    let inside : bit_and port 0xffffffff ≡ port = ap (λ (n : ℕ). bit_and n 0xffffffff) (sym b.among) ∙ and_assoc 0xffffffff port rest ∙ ap (bit_and port) w.among ∙ b.among in
    omega (arith, low port, inside)

pub bit_ingress : (mask rest port : ℕ) → AreWithout 0xffffffff mask rest → IsBitOf rest port → IsIngressPort port
bit_ingress mask rest port w b = inl (omega (arith, pow_pos b.place, b.is), most)
  where
    below : port < 2 ^ 32
    below = bit_low mask rest port w b

    place_low : b.place < 32
    place_low = elim (cases_lt b.place 32) as (λ x. b.place < 32) [
      | inl lt ↦ lt
      | inr le ↦ elim (cases_lt 32 b.place) as (λ x. b.place < 32) [
        | inl more ↦ absurd (omega (arith, below, b.is, pow_below 32 b.place more))
        | inr same ↦ (let e : b.place ≡ 32 = omega (arith, le, same) in absurd (omega (arith, below, b.is ∙ ap (λ (n : ℕ). 2 ^ n) e)))
      ]
    ]

    most : port ≤ 4294967040
    most = elim (cases_lt b.place 31) as (λ x. port ≤ 4294967040) [
      | inl lt ↦ omega (arith, b.is, pow_below b.place 31 lt)
      | inr le ↦ (let e : b.place ≡ 31 = omega (arith, le, place_low) in omega (arith, b.is ∙ ap (λ (n : ℕ). 2 ^ n) e))
    ]

small_ingress : (port : ℕ) → IsIngressPort port → (1 ≤ port) × (port < 2 ^ 32)
small_ingress port (inl h) = (h.0, omega (arith, h.1))
small_ingress port (inr e) = (omega (arith, e), omega (arith, e))

-- if all bits of a port's number are known to be 0, it is no port
pub no_port : (mask known port : ℕ) → known ≡ 0 → bit_and 0xffffffff mask ≡ 0xffffffff → bit_and port mask ≡ known → ¬ (IsIngressPort port)
no_port mask known port zero all under is =
    let small = small_ingress port is in
    let own : bit_and port 0xffffffff ≡ port = low port ∙ omega (arith, small.1) in
    let none : bit_and port mask ≡ port = ap (λ (n : ℕ). bit_and n mask) (sym own) ∙ and_assoc mask port 0xffffffff ∙ ap (bit_and port) all ∙ own in
    absurd (omega (arith, small.0, none, under, zero))
