-- Regions of which more is known.
use Rattle.std.proofs.Common.{◌≡◌, ℕ, Bool, true, false, cond, eqb, Option, Some, None, refl, sym, ap, ◌∙◌, subst, inl, inr}
use Rattle.std.{specs.Prelude.bit_and, specs.Prelude.bit_or, specs.Prelude.◌⊎◌, specs.Prelude.◌^◌, proofs.lemmas.Bool.eqb-true, proofs.lemmas.Bool.eq-eqb}
use Rattle.of_layers.{specs.declared.field.Field.Field, specs.Fields.number_of, specs.Fields.ones_of, proofs.Table.same_number}
use Rattle.of_headers.specs.FieldMap.{seen}
use Rattle.of_frames.specs.{Knowing.IsAmong, declared.shape.Rule.Rule, declared.shape.Rule.TheVariants.Under}
use Rattle.of_regions.proofs.DividingLemmas.{high_has, high_less, high_or_low, high_said, high_under, low_lacks, low_less, low_under, more_ruled, more_within, not_both}
use Rattle.of_regions.{specs.Known.is_known_by, proofs.JoiningLemmas.parts, proofs.JoiningLemmas.whole}

-- ---- a bit more of a field

pub known_high : (ones : ℕ) (rule : Rule) (mask known bit : ℕ) → is_known_by ones rule (Some mask) (Some known) ≡ true → bit_and bit ones ≡ bit → bit_and bit mask ≡ 0 → is_known_by ones rule (Some (bit_or mask bit)) (Some (bit_or known bit)) ≡ true
known_high ones (Under bits said) mask known bit h w n =
    let p = parts ones bits said mask known h in
    whole ones bits said (bit_or mask bit) (bit_or known bit) (record {
      within = more_within mask known bits said ones bit p.under n p.within w;
      ruled = more_ruled mask known bits said ones bit p.under n p.ruled;
      under = high_under mask known bits said ones bit p.under n;
      said = high_said mask known bits said ones bit p.under n p.ruled p.said;
    })
known_high ones other mask known bit h w n = absurd cc

pub known_low : (ones : ℕ) (rule : Rule) (mask known bit : ℕ) → is_known_by ones rule (Some mask) (Some known) ≡ true → bit_and bit ones ≡ bit → bit_and bit mask ≡ 0 → is_known_by ones rule (Some (bit_or mask bit)) (Some known) ≡ true
known_low ones (Under bits said) mask known bit h w n =
    let p = parts ones bits said mask known h in
    whole ones bits said (bit_or mask bit) known (record {
      within = more_within mask known bits said ones bit p.under n p.within w;
      ruled = more_ruled mask known bits said ones bit p.under n p.ruled;
      under = low_under mask known bits said ones bit p.under n;
      said = p.said;
    })
known_low ones other mask known bit h w n = absurd cc

pub under_of : (ones : ℕ) (rule : Rule) (mask known : ℕ) → is_known_by ones rule (Some mask) (Some known) ≡ true → bit_and known mask ≡ known
under_of ones (Under bits said) mask known h = (parts ones bits said mask known h).under
under_of ones other mask known h = absurd cc

-- ---- one field that is set, and the others as they were

module _ (masks known new_masks new_known : Field → Option ℕ) (field : Field) (mask bits : Option ℕ)
    (masks_are : (f : Field) → new_masks f ≡ cond (eqb (number_of f) (number_of field)) mask (masks f))
    (known_are : (f : Field) → new_known f ≡ cond (eqb (number_of f) (number_of field)) bits (known f)) where
  own_mask : new_masks field ≡ mask
  own_mask = masks_are field ∙ ap (λ b. cond b mask (masks field)) (eq-eqb (number_of field) (number_of field) refl)

  own_bits : new_known field ≡ bits
  own_bits = known_are field ∙ ap (λ b. cond b bits (known field)) (eq-eqb (number_of field) (number_of field) refl)

  -- what holds of the field that is set, and held of the others
  set_each : (P : Field → Option ℕ → Option ℕ → Type 0) → ((f : Field) → P f (masks f) (known f)) → P field mask bits → (f : Field) → P f (new_masks f) (new_known f)
  set_each P others own f = by_test (eqb (number_of f) (number_of field)) refl
    where
      by_test : (b : Bool) → eqb (number_of f) (number_of field) ≡ b → P f (new_masks f) (new_known f)
      by_test true e =
          let at : P field (new_masks field) (new_known field) = rw (own_mask, own_bits) own in
          subst (λ (g : Field). P g (new_masks g) (new_known g)) (sym (same_number f field (eqb-true _ _ e))) at
      by_test false e = rw (masks_are f ∙ ap (λ b. cond b mask (masks f)) e, known_are f ∙ ap (λ b. cond b bits (known f)) e) (others f)

  pub set_known : (rule : Field → Rule) → ((f : Field) → is_known_by (ones_of f) (rule f) (masks f) (known f) ≡ true) → is_known_by (ones_of field) (rule field) mask bits ≡ true → (f : Field) → is_known_by (ones_of f) (rule f) (new_masks f) (new_known f) ≡ true
  set_known rule others own = set_each (λ f m k. is_known_by (ones_of f) (rule f) m k ≡ true) others own

  pub set_among : (map : Field → Option ℕ) → IsAmong masks known map → seen mask (map field) ≡ bits → IsAmong new_masks new_known map
  set_among map h own = set_each (λ f m k. seen m (map f) ≡ k) h own

  pub own_among : (map : Field → Option ℕ) → IsAmong new_masks new_known map → seen mask (map field) ≡ bits
  own_among map h = ap (λ m. seen m (map field)) (sym own_mask) ∙ (h field ∙ own_bits)

  pub was_among : ((o : Option ℕ) → seen mask o ≡ bits → seen (masks field) o ≡ known field) → (map : Field → Option ℕ) → IsAmong new_masks new_known map → IsAmong masks known map
  was_among back map h f = by_test (eqb (number_of f) (number_of field)) refl
    where
      by_test : (b : Bool) → eqb (number_of f) (number_of field) ≡ b → seen (masks f) (map f) ≡ known f
      by_test true e = subst (λ (g : Field). seen (masks g) (map g) ≡ known g) (sym (same_number f field (eqb-true _ _ e))) (back (map field) (own_among map h))
      by_test false e =
          let m : new_masks f ≡ masks f = masks_are f ∙ ap (λ b. cond b mask (masks f)) e in
          let k : new_known f ≡ known f = known_are f ∙ ap (λ b. cond b bits (known f)) e in
          ap (λ x. seen x (map f)) (sym m) ∙ (h f ∙ k)

-- ---- divided by a bit

seen_less : (mask known more bits : ℕ) → ((w : ℕ) → bit_and w more ≡ bits → bit_and w mask ≡ known) → (o : Option ℕ) → seen (Some more) o ≡ Some bits → seen (Some mask) o ≡ Some known
seen_less mask known more bits f None h = absurd cc
seen_less mask known more bits f (Some w) h = ap Some (f w cc)

module _ (masks known : Field → Option ℕ) (field : Field) (mask bits place bit : ℕ) (m : masks field ≡ Some mask) (k : known field ≡ Some bits)
    (under : bit_and bits mask ≡ bits) (new : bit_and bit mask ≡ 0) (is : bit ≡ 2 ^ place)
    (masks1 known1 : Field → Option ℕ)
    (masks1_are : (f : Field) → masks1 f ≡ cond (eqb (number_of f) (number_of field)) (Some (bit_or mask bit)) (masks f))
    (known1_are : (f : Field) → known1 f ≡ cond (eqb (number_of f) (number_of field)) (Some (bit_or bits bit)) (known f))
    (masks2 known2 : Field → Option ℕ)
    (masks2_are : (f : Field) → masks2 f ≡ cond (eqb (number_of f) (number_of field)) (Some (bit_or mask bit)) (masks f))
    (known2_are : (f : Field) → known2 f ≡ cond (eqb (number_of f) (number_of field)) (Some bits) (known f)) where
  pub parts_within : (map : Field → Option ℕ) → IsAmong masks1 known1 map ⊎ IsAmong masks2 known2 map → IsAmong masks known map
  parts_within map (inl h) = was_among masks known masks1 known1 field (Some (bit_or mask bit)) (Some (bit_or bits bit)) masks1_are known1_are
      (λ o s. ap (λ x. seen x o) m ∙ (seen_less mask bits (bit_or mask bit) (bit_or bits bit) (high_less mask bits 0 0 0 bit under new) o s ∙ sym k)) map h
  parts_within map (inr h) = was_among masks known masks2 known2 field (Some (bit_or mask bit)) (Some bits) masks2_are known2_are
      (λ o s. ap (λ x. seen x o) m ∙ (seen_less mask bits (bit_or mask bit) bits (low_less mask bits 0 0 0 bit under new) o s ∙ sym k)) map h

  pub parts_all : (map : Field → Option ℕ) → IsAmong masks known map → IsAmong masks1 known1 map ⊎ IsAmong masks2 known2 map
  parts_all map h =
      let here : seen (Some mask) (map field) ≡ Some bits = ap (λ x. seen x (map field)) (sym m) ∙ (h field ∙ k) in
      elim (high_or_low mask bits 0 0 0 bit under new place is (map field) here) as (λ x. IsAmong masks1 known1 map ⊎ IsAmong masks2 known2 map) [
        | inl high ↦ inl (set_among masks known masks1 known1 field (Some (bit_or mask bit)) (Some (bit_or bits bit)) masks1_are known1_are map h high)
        | inr low ↦ inr (set_among masks known masks2 known2 field (Some (bit_or mask bit)) (Some bits) masks2_are known2_are map h low)
      ]

  pub part_has : (map : Field → Option ℕ) → IsAmong masks1 known1 map → seen (Some bit) (map field) ≡ Some bit
  part_has map h = seen_less bit bit (bit_or mask bit) (bit_or bits bit) (high_has mask bits 0 0 0 bit under new) (map field)
      (own_among masks known masks1 known1 field (Some (bit_or mask bit)) (Some (bit_or bits bit)) masks1_are known1_are map h)

  pub part_lacks : (map : Field → Option ℕ) → IsAmong masks2 known2 map → seen (Some bit) (map field) ≡ Some 0
  part_lacks map h = seen_less bit 0 (bit_or mask bit) bits (low_lacks mask bits 0 0 0 bit under new) (map field)
      (own_among masks known masks2 known2 field (Some (bit_or mask bit)) (Some bits) masks2_are known2_are map h)

  pub parts_apart : (map : Field → Option ℕ) → IsAmong masks1 known1 map → IsAmong masks2 known2 map → ⊥
  parts_apart map a b =
      not_both mask bits 0 0 0 bit under new place is (map field)
      (own_among masks known masks1 known1 field (Some (bit_or mask bit)) (Some (bit_or bits bit)) masks1_are known1_are map a)
      (own_among masks known masks2 known2 field (Some (bit_or mask bit)) (Some bits) masks2_are known2_are map b)
