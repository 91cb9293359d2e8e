-- What is known of each field, one after the other.
use Rattle.std.proofs.Common.{◌≡◌, ℕ, ◌+◌, ◌<◌, ◌≤◌, Bool, true, false, cond, eqb, List, Option, Some, None, refl, sym, ap, ◌∙◌, subst, arith}
use Rattle.std.{specs.Prelude.bit_and, specs.Prelude.IfSome, proofs.lemmas.Bool.eqb-true, proofs.lemmas.Bool.eq-eqb, proofs.lemmas.Bool.Decides.nat_tests}
use Rattle.std.proofs.lemmas.Nat.{and_le_r}
use Rattle.of_layers.{specs.declared.field.Field.Field, specs.Fields.number_of, specs.Fields.ones_of, proofs.Table.same_number}
use Rattle.of_headers.specs.FieldMap.{value}
use Rattle.of_oxm.specs.{Masks.mask_at, Masks.looked_at, Masks.value_of, declared.match_field.MatchField.MatchField}
use Rattle.of_frames.specs.{declared.shape.Rule.Rule, declared.shape.Rule.TheVariants.Free, declared.shape.Rule.TheVariants.Absent, declared.shape.Rule.TheVariants.Under, declared.shape.Shape.Shape}
use Rattle.of_frames.specs.declared.shape.Tagging.{Tagging}
use Rattle.of_regions.specs.{declared.building.Fields.Fields, declared.joining.Bits.Bits, Known.is_known_by, Known.rule_in, Joining.Joined}
use Rattle.of_regions.{specs.Building.AreOthers, specs.Building.IsBegunField, specs.Building.IsUnknown, specs.Building.bits_at, proofs.PlaceLemmas.place, proofs.PlaceLemmas.same_place}
use Rattle.of_regions.proofs.JoiningLemmas.{parts}

pub put_none : (old : Field → Option ℕ) (field f : Field) (number : Option ℕ) → old field ≡ None → number ≡ None → old f ≡ cond (eqb (number_of f) (number_of field)) number (old f)
put_none old field f number absent none = by_test (eqb (number_of f) (number_of field)) refl
  where
    by_test : (b : Bool) → eqb (number_of f) (number_of field) ≡ b → old f ≡ cond b number (old f)
    by_test true e = ap old (same_number f field (eqb-true _ _ e)) ∙ (absent ∙ sym none)
    by_test false e = refl

-- ---- what is known is within the bits of the field

some_within : (n ones m : ℕ) → bit_and n m ≡ n → m ≤ ones → n ≤ ones
some_within n ones m under most = let le : bit_and n m ≤ m = and_le_r n m in omega (arith, under, most, le)

pub known_within : (ones : ℕ) (rule : Rule) (mask known : Option ℕ) → is_known_by ones rule mask known ≡ true → IfSome mask (λ n. n ≤ ones) × IfSome known (λ n. n ≤ ones)
known_within ones Free None None h = (tt, tt)
known_within ones Free None (Some k) h = absurd cc
known_within ones Free (Some m) k h = absurd cc
known_within ones Absent None k h = absurd cc
known_within ones Absent (Some m) None h = (grind (arith, nat_tests, h), tt)
known_within ones Absent (Some m) (Some k) h = absurd cc
known_within ones (Under bits said) None k h = absurd cc
known_within ones (Under bits said) (Some m) None h = absurd cc
known_within ones (Under bits said) (Some m) (Some k) h =
    let p = parts ones bits said m k h in
    let small : m ≤ ones = some_within m ones ones p.within (omega arith) in
    (small, some_within k ones m p.under small)

-- ---- one more field

same_bits : (a b : Bits) → a.mask ≡ b.mask → a.known ≡ b.known → a ≡ b
same_bits a b m k = rw (m, k) refl

module _ (old new : Fields) (field : Field) (bits : Bits)
    (masks : (f : Field) → mask_at new.masks f ≡ cond (eqb (number_of f) (number_of field)) bits.mask (mask_at old.masks f))
    (known : (f : Field) → value new.known f ≡ cond (eqb (number_of f) (number_of field)) bits.known (value old.known f)) where
  pub here : bits ≡ bits_at new field
  here =
      let t : eqb (number_of field) (number_of field) ≡ true = eq-eqb _ _ refl in
      same_bits bits (bits_at new field) (sym (masks field ∙ ap (λ b. cond b bits.mask (mask_at old.masks field)) t)) (sym (known field ∙ ap (λ b. cond b bits.known (value old.known field)) t))

  elsewhere : (f : Field) → ¬ (f ≡ field) → eqb (number_of f) (number_of field) ≡ false
  elsewhere f other = by_test (eqb (number_of f) (number_of field)) refl
    where
      by_test : (b : Bool) → eqb (number_of f) (number_of field) ≡ b → b ≡ false
      by_test true e = absurd (other (same_number f field (eqb-true _ _ e)))
      by_test false e = refl

  pub others_same : AreOthers old field new
  others_same f other =
      let t = elsewhere f other in
      same_bits (bits_at new f) (bits_at old f) (masks f ∙ ap (λ b. cond b bits.mask (mask_at old.masks f)) t) (known f ∙ ap (λ b. cond b bits.known (value old.known f)) t)

-- ---- field by field

module _ (s : Shape) (t : Option Tagging) (m : List MatchField) (old new : Fields) (x : Field) (index : ℕ)
    (at : place x ≡ index) (joined : IsBegunField s t m new x) (others : AreOthers old x new) where
  pub begun_more : ((f : Field) → place f < index → IsBegunField s t m old f) → (f : Field) → place f < index + 1 → IsBegunField s t m new f
  begun_more before f lt = by_test (eqb (place f) index) refl
    where
      by_test : (b : Bool) → eqb (place f) index ≡ b → IsBegunField s t m new f
      by_test true e = subst (IsBegunField s t m new) (sym (same_place f x (eqb-true _ _ e ∙ sym at))) joined
      by_test false e =
          let lower : place f < index = grind (arith, nat_tests, lt, e) in
          let other : ¬ (f ≡ x) = λ is. absurd (omega (arith, lower, ap place is, at)) in
          subst (Joined (ones_of f) (rule_in s t f) (looked_at m f) (value_of m f)) (sym (others f other)) (before f lower)

  pub unknown_after : ((f : Field) → index ≤ place f → IsUnknown old f) → (f : Field) → index + 1 ≤ place f → IsUnknown new f
  unknown_after before f le =
      let other : ¬ (f ≡ x) = λ is. absurd (omega (arith, le, ap place is, at)) in
      let same = others f other in
      let was = before f (omega (arith, le)) in
      (ap (λ (b : Bits). b.mask) same ∙ was.0, ap (λ (b : Bits). b.known) same ∙ was.1)
