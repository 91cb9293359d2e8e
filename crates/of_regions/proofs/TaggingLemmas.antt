-- Regions divided by tags.
use Rattle.std.proofs.Common.{◌≡◌, ℕ, true, cond, eqb, Option, Some, None, refl, sym, ap, ◌∙◌, inl, inr, arith}
use Rattle.std.{specs.Prelude.bit_and, specs.Prelude.◌⊎◌, proofs.lemmas.Nat.and_assoc}
use Rattle.of_layers.specs.declared.field.Field.{Field}
use Rattle.of_layers.specs.declared.field.Field.TheVariants.{EthType, IpProto, VlanPcp, VlanVid}
use Rattle.of_layers.specs.Fields.{number_of, ones_of, prerequisite_of, row_of}
use Rattle.of_layers.specs.declared.field.Prerequisite.TheVariants as needs
use Rattle.of_headers.specs.FieldMap.{seen}
use Rattle.of_frames.specs.{Knowing.IsAmong, declared.shape.Shape.Shape, declared.shape.Tagging.Tagging}
use Rattle.of_frames.specs.{declared.shape.Rule.Rule, declared.shape.Rule.TheVariants.Free, declared.shape.Rule.TheVariants.Absent, declared.shape.Rule.TheVariants.Under}
use Rattle.of_frames.specs.Rules.{has_header}
use Rattle.of_regions.proofs.RuleLemmas.{pcp_free, protocol_said, said_or, type_said, vid_free}
use Rattle.of_regions.specs.{declared.region.Region.Region, Regions.AreParts, Regions.IsEither, Known.AllKnown, Known.is_known_by, Known.rule_in}

-- ---- fields of which nothing is known

pub free_mask : (ones : ℕ) (mask known : Option ℕ) → is_known_by ones Free mask known ≡ true → mask ≡ None
free_mask ones None known h = refl
free_mask ones (Some m) known h = absurd cc

free_known : (ones : ℕ) (mask known : Option ℕ) → is_known_by ones Free mask known ≡ true → known ≡ None
free_known ones None None h = refl
free_known ones None (Some k) h = absurd cc
free_known ones (Some m) known h = absurd cc

pub unknown_free : (ones : ℕ) (rule : Rule) (mask known : Option ℕ) → is_known_by ones rule mask known ≡ true → mask ≡ None → rule ≡ Free
unknown_free ones Free mask known h n = refl
unknown_free ones Absent None known h n = absurd cc
unknown_free ones Absent (Some m) known h n = absurd cc
unknown_free ones (Under bits said) None known h n = absurd cc
unknown_free ones (Under bits said) (Some m) known h n = absurd cc

free_untagged : (s : Shape) (t : Option Tagging) (f : Field) → rule_in s t f ≡ Free → t ≡ None
free_untagged s t f = elim f as (λ f. rule_in s t f ≡ Free → t ≡ None) [
  | VlanVid ↦ λ e. vid_free t e
  | VlanPcp ↦ λ e. pcp_free t e
  | EthType ↦ λ e. absurd (type_said s e)
  | IpProto ↦ λ e. absurd (protocol_said s e)
  | f ↦ λ e. absurd (said_or (has_header s (prerequisite_of f)) e)
]

-- if nothing is known of a field, the tagging is not known
pub unknown_untagged : (s : Shape) (t : Option Tagging) (masks known : Field → Option ℕ) → AllKnown s t masks known → (f : Field) → masks f ≡ None → t ≡ None
unknown_untagged s t masks known each f n = free_untagged s t f (unknown_free (ones_of f) (rule_in s t f) (masks f) (known f) (each f) n)

-- ---- the fields of a tag that are set, and the others as they were

abbrev tag_is : Option ℕ → Option ℕ → (Field → Option ℕ) → Field → Option ℕ
tag_is vid pcp old VlanVid = vid
tag_is vid pcp old VlanPcp = pcp
tag_is vid pcp old f = old f

pub masks_set : (old mid new : Field → Option ℕ) (vid pcp : Option ℕ) → ((f : Field) → mid f ≡ cond (eqb (number_of f) (number_of VlanVid)) vid (old f)) → ((f : Field) → new f ≡ cond (eqb (number_of f) (number_of VlanPcp)) pcp (mid f)) → (f : Field) → new f ≡ tag_is vid pcp old f
unfolding row_of
masks_set old mid new vid pcp a b f = elim f as (λ f. new f ≡ tag_is vid pcp old f) [
  | VlanVid ↦ b VlanVid ∙ a VlanVid
  | VlanPcp ↦ b VlanPcp
  | f ↦ b f ∙ a f
]

pub vid_set : (old new : Field → Option ℕ) (vid : Option ℕ) → ((f : Field) → new f ≡ cond (eqb (number_of f) (number_of VlanVid)) vid (old f)) → (f : Field) → new f ≡ tag_is vid (old VlanPcp) old f
unfolding row_of
vid_set old new vid a f = elim f as (λ f. new f ≡ tag_is vid (old VlanPcp) old f) [
  | VlanVid ↦ a VlanVid
  | f ↦ a f
]

module _ (s : Shape) (masks known new_masks new_known : Field → Option ℕ) (each : AllKnown s None masks known) where
  pub no_pcp : known VlanPcp ≡ None
  no_pcp = free_known (ones_of VlanPcp) (masks VlanPcp) (known VlanPcp) (each VlanPcp)

  module _ (mask vid : ℕ) (pcp : Option ℕ) (masks_are : (f : Field) → new_masks f ≡ tag_is (Some mask) (Some 0) masks f) (known_are : (f : Field) → new_known f ≡ tag_is (Some vid) pcp known f) where
    pub tag_known : (t : Tagging) → is_known_by (ones_of VlanVid) (rule_in s (Some t) VlanVid) (Some mask) (Some vid) ≡ true → is_known_by (ones_of VlanPcp) (rule_in s (Some t) VlanPcp) (Some 0) pcp ≡ true → AllKnown s (Some t) new_masks new_known
    tag_known t v p f = rw (masks_are f, known_are f) (elim f as (λ f. is_known_by (ones_of f) (rule_in s (Some t) f) (tag_is (Some mask) (Some 0) masks f) (tag_is (Some vid) pcp known f) ≡ true) [
      | VlanVid ↦ v
      | VlanPcp ↦ p
      | f ↦ each f
    ])

    unseen : (m k o : Option ℕ) → m ≡ None → k ≡ None → seen m o ≡ k
    unseen m k o a b = rw (a, b) refl

    pub tag_within : (map : Field → Option ℕ) → IsAmong new_masks new_known map → IsAmong masks known map
    tag_within map h f =
        let here : seen (tag_is (Some mask) (Some 0) masks f) (map f) ≡ tag_is (Some vid) pcp known f = ap (λ m. seen m (map f)) (sym (masks_are f)) ∙ (h f ∙ known_are f) in
        (elim f as (λ f. seen (tag_is (Some mask) (Some 0) masks f) (map f) ≡ tag_is (Some vid) pcp known f → seen (masks f) (map f) ≡ known f) [
          | VlanVid ↦ λ x. unseen (masks VlanVid) (known VlanVid) (map VlanVid) (free_mask (ones_of VlanVid) (masks VlanVid) (known VlanVid) (each VlanVid)) (free_known (ones_of VlanVid) (masks VlanVid) (known VlanVid) (each VlanVid))
          | VlanPcp ↦ λ x. unseen (masks VlanPcp) (known VlanPcp) (map VlanPcp) (free_mask (ones_of VlanPcp) (masks VlanPcp) (known VlanPcp) (each VlanPcp)) (free_known (ones_of VlanPcp) (masks VlanPcp) (known VlanPcp) (each VlanPcp))
          | f ↦ λ x. x
        ]) here

    pub tag_all : (map : Field → Option ℕ) → seen (Some mask) (map VlanVid) ≡ Some vid → seen (Some 0) (map VlanPcp) ≡ pcp → IsAmong masks known map → IsAmong new_masks new_known map
    tag_all map v p h f = rw (masks_are f, known_are f) (elim f as (λ f. seen (tag_is (Some mask) (Some 0) masks f) (map f) ≡ tag_is (Some vid) pcp known f) [
      | VlanVid ↦ v
      | VlanPcp ↦ p
      | f ↦ h f
    ])

    pub tag_vid : (map : Field → Option ℕ) → IsAmong new_masks new_known map → seen (Some mask) (map VlanVid) ≡ Some vid
    tag_vid map h = ap (λ m. seen m (map VlanVid)) (sym (masks_are VlanVid)) ∙ (h VlanVid ∙ known_are VlanVid)

-- ---- two parts, in either order

pub parts_either : (whole a b first second : Region) → AreParts whole a b → IsEither a b first second → AreParts whole first second
parts_either whole a b first second p (inl e) = rw (e.0, e.1) p
parts_either whole a b first second p (inr e) = rw (e.0, e.1) (record { within = λ map h. p.within map (swapped h); all = λ map t h. swapped (p.all map t h); apart = λ map x y. p.apart map y x })
  where
    swapped : {P Q : Type 0} → P ⊎ Q → Q ⊎ P
    swapped (inl x) = inr x
    swapped (inr y) = inl y

pub either_way : (P : Region → Region → Type 0) (a b first second : Region) → P a b → IsEither a b first second → P first second ⊎ P second first
either_way P a b first second p (inl e) = inl (rw (e.0, e.1) p)
either_way P a b first second p (inr e) = inr (rw (e.0, e.1) p)

-- a packet has no tag, and none with a tag lacks it
pub not_both_tags : (o : Option ℕ) → seen (Some 0x1000) o ≡ Some 0x1000 → seen (Some 0x1fff) o ≡ Some 0 → ⊥
not_both_tags None a b = cc
not_both_tags (Some w) a b =
    let p : bit_and w 0x1000 ≡ 0x1000 = cc in
    let q : bit_and w 0x1fff ≡ 0 = cc in
    let same : bit_and w 0x1000 ≡ bit_and (bit_and w 0x1fff) 0x1000 = sym (and_assoc 0x1000 w 0x1fff) in
    let none : bit_and (bit_and w 0x1fff) 0x1000 ≡ 0 = ap (λ (n : ℕ). bit_and n 0x1000) q in
    absurd (omega (arith, p, same, none))
