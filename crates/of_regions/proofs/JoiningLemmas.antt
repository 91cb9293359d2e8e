-- What is known of a field that obeys a rule, and of which a match asks some bits.
use Rattle.std.proofs.Common.{◌≡◌, ℕ, true, eqb, Option, Some, None, refl, ap}
use Rattle.std.{specs.Prelude.bit_and, specs.Prelude.bit_or, specs.Prelude.◌&&◌, proofs.lemmas.Bool.eq-eqb, proofs.lemmas.Bool.eqb-true}
use Rattle.of_headers.specs.FieldMap.{seen}
use Rattle.of_oxm.proofs.Related.{and_true}
use Rattle.of_frames.specs.{declared.shape.Rule.TheVariants.Under, Rules.Obeys}
use Rattle.of_regions.proofs.BitLemmas.{both_seen, first_seen, seen_twice, mask_ruled, known_under, known_said, within_both}
use Rattle.of_regions.specs.{Joining.IsAsked, Joining.IsRule, Joining.Joined, Known.are_known}

-- ---- the parts of what is known

pub record Parts (ones bits v mask known : ℕ) : Type 0 where
  pub within : bit_and mask ones ≡ mask
  pub ruled : bit_and mask bits ≡ bits
  pub under : bit_and known mask ≡ known
  pub said : bit_and known bits ≡ v

pub parts : (ones bits said mask known : ℕ) → are_known ones bits said mask known ≡ true → Parts ones bits said mask known
parts ones bits said mask known h =
    let both = and_true (eqb (bit_and mask ones) mask && eqb (bit_and mask bits) bits) (eqb (bit_and known mask) known && eqb (bit_and known bits) said) h in
    let first = and_true (eqb (bit_and mask ones) mask) (eqb (bit_and mask bits) bits) both.0 in
    let second = and_true (eqb (bit_and known mask) known) (eqb (bit_and known bits) said) both.1 in
    record { within = eqb-true _ _ first.0; ruled = eqb-true _ _ first.1; under = eqb-true _ _ second.0; said = eqb-true _ _ second.1 }

pub whole : (ones bits said mask known : ℕ) → Parts ones bits said mask known → are_known ones bits said mask known ≡ true
whole ones bits said mask known p = rw (eq-eqb _ _ p.within, eq-eqb _ _ p.ruled, eq-eqb _ _ p.under, eq-eqb _ _ p.said) refl

-- ---- a rule and a match that both say bits

module _ (ones bits said mask asked : ℕ) (rule_in : bit_and bits ones ≡ bits) (rule_under : bit_and said bits ≡ said) (mask_in : bit_and mask ones ≡ mask) (asked_under : bit_and asked mask ≡ asked) where
  pub joined_known : bit_and asked bits ≡ bit_and said mask → are_known ones bits said (bit_or mask bits) (bit_or asked said) ≡ true
  joined_known e = whole ones bits said (bit_or mask bits) (bit_or asked said) (record {
    within = within_both mask bits ones mask_in rule_in;
    ruled = mask_ruled mask bits asked said;
    under = known_under mask bits asked said asked_under rule_under;
    said = known_said mask bits asked said asked_under rule_under e;
  })

  pub joined_back : bit_and asked bits ≡ bit_and said mask → (o : Option ℕ) → seen (Some (bit_or mask bits)) o ≡ Some (bit_or asked said) → seen (Some mask) o ≡ Some asked
  joined_back e None h = absurd cc
  joined_back e (Some w) h = let k : bit_and w (bit_or mask bits) ≡ bit_or asked said = cc in ap Some (first_seen w mask asked bits said asked_under rule_under e k)

  pub joined_forth : (o : Option ℕ) → seen (Some mask) o ≡ Some asked → seen (Some bits) o ≡ Some said → seen (Some (bit_or mask bits)) o ≡ Some (bit_or asked said)
  joined_forth None a b = absurd cc
  joined_forth (Some w) a b =
      let p : bit_and w mask ≡ asked = cc in
      let q : bit_and w bits ≡ said = cc in
      ap Some (both_seen w mask asked bits said p q)

  pub not_joined : (o : Option ℕ) → seen (Some mask) o ≡ Some asked → seen (Some bits) o ≡ Some said → bit_and asked bits ≡ bit_and said mask
  not_joined None a b = absurd cc
  not_joined (Some w) a b =
      let p : bit_and w mask ≡ asked = cc in
      let q : bit_and w bits ≡ said = cc in
      seen_twice w mask asked bits said p q

pub is_joined : (ones bits said mask asked : ℕ) → IsRule ones (Under bits said) → IsAsked ones (Some mask) (Some asked) → bit_and asked bits ≡ bit_and said mask
    → Joined ones (Under bits said) (Some mask) (Some asked) (record { mask = Some (bit_or mask bits); known = Some (bit_or asked said) })
is_joined ones bits said mask asked r a e = record {
  is = joined_known ones bits said mask asked r.0 r.1 a.0 a.1 e;
  back = joined_back ones bits said mask asked r.0 r.1 a.0 a.1 e;
  forth = joined_forth ones bits said mask asked r.0 r.1 a.0 a.1;
}

pub is_not_joined : (ones bits said mask asked : ℕ) → IsRule ones (Under bits said) → IsAsked ones (Some mask) (Some asked) → ¬ (bit_and asked bits ≡ bit_and said mask)
    → (o : Option ℕ) → seen (Some mask) o ≡ Some asked → Obeys (Under bits said) o → ⊥
is_not_joined ones bits said mask asked r a n o s h = n (not_joined ones bits said mask asked r.0 r.1 a.0 a.1 o s h)
