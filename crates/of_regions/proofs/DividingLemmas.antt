-- Bits of numbers.
use Rattle.std.proofs.Common.{◌≡◌, ℕ, zero, suc, ◌*◌, ◌/◌, ◌%◌, ◌^◌, ◌<◌, ◌≤◌, Bool, true, false, eqb, Option, Some, None, refl, sym, ap, ◌∙◌, arith, inl, inr}
use Rattle.std.specs.Prelude.{bit_and, bit_or, bit_xor, ◌⊎◌, not}
use Rattle.std.proofs.lemmas.Nat.Bits.{and_pow, bit_at_and, bit_at_or, bit_at_xor, bit_at-lt, bit_at-zero, same_from_bits}
use Rattle.std.proofs.lemmas.Nat.{div_below, le-div, one_shl, pow_pos, and_assoc, and_le_l}
use Rattle.std.{specs.Int.bit_at, specs.Int.Bits.and_comm, proofs.lemmas.Bool.eqb-true, proofs.lemmas.Bool.eq-eqb}
use Rattle.of_layers.specs.Fields.{ones_of}
use Rattle.of_oxm.specs.{declared.match_field.MatchField.MatchField, Relations.bits_looked_at}
use Rattle.of_regions.specs.{Meeting.is_apart, Meeting.is_settled, Conditions.IsCondition, Dividing.AreWithout, Dividing.IsBitOf}
use Rattle.of_headers.specs.FieldMap.{seen}

pub are_without : (bits mask : ℕ) → AreWithout bits mask (bit_xor bits (bit_and bits mask))
are_without bits mask = record {
  among = same_from_bits _ _ (λ i. omega (arith, bit_at_and (bit_xor bits (bit_and bits mask)) bits i, bit_at_xor bits (bit_and bits mask) i, bit_at_and bits mask i, bit_at-lt bits i, bit_at-lt mask i));
  none = same_from_bits _ _ (λ i. omega (arith, bit_at_and (bit_xor bits (bit_and bits mask)) mask i, bit_at_xor bits (bit_and bits mask) i, bit_at_and bits mask i, bit_at-lt bits i, bit_at-lt mask i, bit_at-zero i));
  all = λ e. same_from_bits _ _ (λ i.
      let z : bit_at (bit_xor bits (bit_and bits mask)) i ≡ bit_at 0 i = ap (λ (n : ℕ). bit_at n i) e in
      omega (arith, z, bit_at_xor bits (bit_and bits mask) i, bit_at_and bits mask i, bit_at-lt bits i, bit_at-lt mask i, bit_at-zero i));
}

-- a bit that is set
pub bit_of : (bits bit place : ℕ) → bit ≡ 2 ^ place → bit_at bits place ≡ 1 → IsBitOf bits bit
bit_of bits bit place is set = record {
  place = place;
  is = is;
  among = and_comm bit bits ∙ ap (bit_and bits) is ∙ and_pow bits place ∙ ap (λ (n : ℕ). n * 2 ^ place) set ∙ (let one : 1 * 2 ^ place ≡ 2 ^ place = omega arith in one) ∙ sym is;
}

pub shifted : (k : ℕ) → k < 128 → 1 * 2 ^ k % 2 ^ 128 ≡ 2 ^ k
shifted k lt = one_shl k 128 lt

div_is : (n d : ℕ) → 0 < d → d ≤ n → n < 2 * d → n / d ≡ 1
div_is n d some low high =
    let once : 1 * d ≤ n = omega (arith, low) in
    let least : 1 ≤ n / d = le-div 1 n d some once in
    let most : n / d < 2 = div_below n d 2 some high in
    omega (arith, least, most)

-- the highest bit of a number
pub top_bit : (n k : ℕ) → 2 ^ k ≤ n → n < 2 * 2 ^ k → bit_at n k ≡ 1
top_bit n k low high =
    let some : 0 < 2 ^ k = pow_pos k in
    let one : n / 2 ^ k ≡ 1 = div_is n (2 ^ k) some low high in
    ap (λ (q : ℕ). q % 2) one

-- ---- a bit more that is known

module _ (mask known bits said ones bit : ℕ) (under : bit_and known mask ≡ known) (new : bit_and bit mask ≡ 0) where
  pub low_under : bit_and known (bit_or mask bit) ≡ known
  low_under = same_from_bits _ _ (λ i.
      let a : bit_at (bit_and known mask) i ≡ bit_at known i = ap (λ (n : ℕ). bit_at n i) under in
      omega (arith, a, bit_at_and known mask i, bit_at_and known (bit_or mask bit) i, bit_at_or mask bit i))

  pub high_under : bit_and (bit_or known bit) (bit_or mask bit) ≡ bit_or known bit
  high_under = same_from_bits _ _ (λ i.
      let a : bit_at (bit_and known mask) i ≡ bit_at known i = ap (λ (n : ℕ). bit_at n i) under in
      omega (arith, a, bit_at_and known mask i, bit_at_and (bit_or known bit) (bit_or mask bit) i, bit_at_or mask bit i, bit_at_or known bit i))

  pub more_ruled : bit_and mask bits ≡ bits → bit_and (bit_or mask bit) bits ≡ bits
  more_ruled r = same_from_bits _ _ (λ i.
      let a : bit_at (bit_and mask bits) i ≡ bit_at bits i = ap (λ (n : ℕ). bit_at n i) r in
      omega (arith, a, bit_at_and mask bits i, bit_at_and (bit_or mask bit) bits i, bit_at_or mask bit i))

  pub more_within : bit_and mask ones ≡ mask → bit_and bit ones ≡ bit → bit_and (bit_or mask bit) ones ≡ bit_or mask bit
  more_within r s = same_from_bits _ _ (λ i.
      let a : bit_at (bit_and mask ones) i ≡ bit_at mask i = ap (λ (n : ℕ). bit_at n i) r in
      let b : bit_at (bit_and bit ones) i ≡ bit_at bit i = ap (λ (n : ℕ). bit_at n i) s in
      omega (arith, a, b, bit_at_and mask ones i, bit_at_and bit ones i, bit_at_and (bit_or mask bit) ones i, bit_at_or mask bit i))

  pub high_said : bit_and mask bits ≡ bits → bit_and known bits ≡ said → bit_and (bit_or known bit) bits ≡ said
  high_said r s = same_from_bits _ _ (λ i.
      let a : bit_at (bit_and mask bits) i ≡ bit_at bits i = ap (λ (n : ℕ). bit_at n i) r in
      let b : bit_at (bit_and known bits) i ≡ bit_at said i = ap (λ (n : ℕ). bit_at n i) s in
      let c : bit_at (bit_and bit mask) i ≡ bit_at 0 i = ap (λ (n : ℕ). bit_at n i) new in
      omega (arith, a, b, c, bit_at_and mask bits i, bit_at_and known bits i, bit_at_and bit mask i, bit_at-zero i, bit_at_and (bit_or known bit) bits i, bit_at_or known bit i, bit_at-lt bit i, bit_at-lt bits i, bit_at-lt mask i))

  -- what agrees with more agrees with less
  pub low_less : (w : ℕ) → bit_and w (bit_or mask bit) ≡ known → bit_and w mask ≡ known
  low_less w h = same_from_bits _ _ (λ i.
      let a : bit_at (bit_and known mask) i ≡ bit_at known i = ap (λ (n : ℕ). bit_at n i) under in
      let b : bit_at (bit_and w (bit_or mask bit)) i ≡ bit_at known i = ap (λ (n : ℕ). bit_at n i) h in
      omega (arith, a, b, bit_at_and known mask i, bit_at_and w (bit_or mask bit) i, bit_at_or mask bit i, bit_at_and w mask i, bit_at-lt w i, bit_at-lt mask i, bit_at-lt bit i))

  pub high_less : (w : ℕ) → bit_and w (bit_or mask bit) ≡ bit_or known bit → bit_and w mask ≡ known
  high_less w h = same_from_bits _ _ (λ i.
      let a : bit_at (bit_and known mask) i ≡ bit_at known i = ap (λ (n : ℕ). bit_at n i) under in
      let b : bit_at (bit_and w (bit_or mask bit)) i ≡ bit_at (bit_or known bit) i = ap (λ (n : ℕ). bit_at n i) h in
      let c : bit_at (bit_and bit mask) i ≡ bit_at 0 i = ap (λ (n : ℕ). bit_at n i) new in
      omega (arith, a, b, c, bit_at-zero i, bit_at_and known mask i, bit_at_and w (bit_or mask bit) i, bit_at_or mask bit i, bit_at_or known bit i, bit_at_and bit mask i, bit_at_and w mask i, bit_at-lt w i, bit_at-lt mask i, bit_at-lt bit i, bit_at-lt known i))

  pub high_has : (w : ℕ) → bit_and w (bit_or mask bit) ≡ bit_or known bit → bit_and w bit ≡ bit
  high_has w h = same_from_bits _ _ (λ i.
      let b : bit_at (bit_and w (bit_or mask bit)) i ≡ bit_at (bit_or known bit) i = ap (λ (n : ℕ). bit_at n i) h in
      omega (arith, b, bit_at_and w (bit_or mask bit) i, bit_at_or mask bit i, bit_at_or known bit i, bit_at_and w bit i, bit_at-lt w i, bit_at-lt mask i, bit_at-lt bit i, bit_at-lt known i))

  pub low_lacks : (w : ℕ) → bit_and w (bit_or mask bit) ≡ known → bit_and w bit ≡ 0
  low_lacks w h = same_from_bits _ _ (λ i.
      let a : bit_at (bit_and known mask) i ≡ bit_at known i = ap (λ (n : ℕ). bit_at n i) under in
      let b : bit_at (bit_and w (bit_or mask bit)) i ≡ bit_at known i = ap (λ (n : ℕ). bit_at n i) h in
      let c : bit_at (bit_and bit mask) i ≡ bit_at 0 i = ap (λ (n : ℕ). bit_at n i) new in
      omega (arith, a, b, c, bit_at-zero i, bit_at_and known mask i, bit_at_and w (bit_or mask bit) i, bit_at_or mask bit i, bit_at_and bit mask i, bit_at_and w bit i, bit_at-lt w i, bit_at-lt mask i, bit_at-lt bit i, bit_at-lt known i))

  -- a packet has the bit or lacks it
  low_more : (w : ℕ) → bit_and w mask ≡ known → bit_and w bit ≡ 0 → bit_and w (bit_or mask bit) ≡ known
  low_more w h z = same_from_bits _ _ (λ i.
      let a : bit_at (bit_and w mask) i ≡ bit_at known i = ap (λ (n : ℕ). bit_at n i) h in
      let b : bit_at (bit_and w bit) i ≡ bit_at 0 i = ap (λ (n : ℕ). bit_at n i) z in
      omega (arith, a, b, bit_at-zero i, bit_at_and w mask i, bit_at_and w bit i, bit_at_and w (bit_or mask bit) i, bit_at_or mask bit i))

  high_more : (w : ℕ) → bit_and w mask ≡ known → bit_and w bit ≡ bit → bit_and w (bit_or mask bit) ≡ bit_or known bit
  high_more w h z = same_from_bits _ _ (λ i.
      let a : bit_at (bit_and w mask) i ≡ bit_at known i = ap (λ (n : ℕ). bit_at n i) h in
      let b : bit_at (bit_and w bit) i ≡ bit_at bit i = ap (λ (n : ℕ). bit_at n i) z in
      omega (arith, a, b, bit_at_and w mask i, bit_at_and w bit i, bit_at_and w (bit_or mask bit) i, bit_at_or mask bit i, bit_at_or known bit i))

  bit_apart : bit_or known bit ≡ known → bit ≡ 0
  bit_apart e = same_from_bits _ _ (λ i.
      let a : bit_at (bit_and known mask) i ≡ bit_at known i = ap (λ (n : ℕ). bit_at n i) under in
      let b : bit_at (bit_or known bit) i ≡ bit_at known i = ap (λ (n : ℕ). bit_at n i) e in
      let c : bit_at (bit_and bit mask) i ≡ bit_at 0 i = ap (λ (n : ℕ). bit_at n i) new in
      omega (arith, a, b, c, bit_at-zero i, bit_at_and known mask i, bit_at_or known bit i, bit_at_and bit mask i, bit_at-lt known i, bit_at-lt mask i, bit_at-lt bit i))

  module _ (k : ℕ) (is : bit ≡ 2 ^ k) where
    either_bit : (b n : ℕ) → b < 2 → (b * n ≡ 0) ⊎ (b * n ≡ n)
    either_bit zero n lt = inl (omega arith)
    either_bit (suc j) n lt = inr (let one : suc j ≡ 1 = omega arith in ap (λ (i : ℕ). i * n) one ∙ omega arith)

    clear_or_set : (w : ℕ) → (bit_and w bit ≡ 0) ⊎ (bit_and w bit ≡ bit)
    clear_or_set w = elim (either_bit (bit_at w k) (2 ^ k) (bit_at-lt w k)) as (λ x. (bit_and w bit ≡ 0) ⊎ (bit_and w bit ≡ bit)) [
      | inl none ↦ inl (ap (bit_and w) is ∙ and_pow w k ∙ none)
      | inr all ↦ inr (ap (bit_and w) is ∙ and_pow w k ∙ all ∙ sym is)
    ]

    pub high_or_low : (o : Option ℕ) → seen (Some mask) o ≡ Some known → (seen (Some (bit_or mask bit)) o ≡ Some (bit_or known bit)) ⊎ (seen (Some (bit_or mask bit)) o ≡ Some known)
    high_or_low None h = absurd cc
    high_or_low (Some w) h =
        let p : bit_and w mask ≡ known = cc in
        elim (clear_or_set w) as (λ x. (seen (Some (bit_or mask bit)) (Some w) ≡ Some (bit_or known bit)) ⊎ (seen (Some (bit_or mask bit)) (Some w) ≡ Some known)) [
          | inl none ↦ inr (ap Some (low_more w p none))
          | inr all ↦ inl (ap Some (high_more w p all))
        ]

    pub not_both : (o : Option ℕ) → seen (Some (bit_or mask bit)) o ≡ Some (bit_or known bit) → seen (Some (bit_or mask bit)) o ≡ Some known → ⊥
    not_both None h g = cc
    not_both (Some w) h g =
        let a : bit_and w (bit_or mask bit) ≡ bit_or known bit = cc in
        let b : bit_and w (bit_or mask bit) ≡ known = cc in
        let zero_is : bit ≡ 0 = bit_apart (sym a ∙ b) in
        let some : 0 < 2 ^ k = pow_pos k in
        absurd (omega (arith, some, is, zero_is))

-- ---- a field of a match that crosses a region

pub record Crossing (e : MatchField) (mask known bit : ℕ) : Type 0 where
  pub looked_at : IsBitOf (bits_looked_at e) bit
  pub within : bit_and bit (ones_of e.field) ≡ bit
  pub new : bit_and bit mask ≡ 0

-- some bit is not known that the field looks at
unknown_some : (e : MatchField) (mask known rest : ℕ) → IsCondition e → AreWithout (bits_looked_at e) mask rest → is_settled e (Some mask) (Some known) ≡ false → is_apart e (Some mask) (Some known) ≡ false → rest ≡ 0 → ⊥
unknown_some e mask known rest k w unsettled near z =
    let wide : bit_and (bits_looked_at e) mask ≡ bits_looked_at e = w.all z in
    let agree : bit_and known (bits_looked_at e) ≡ bit_and e.value mask = near_agrees (bit_and known (bits_looked_at e)) (bit_and e.value mask) near in
    let under : bit_and e.value mask ≡ e.value =
    ap (λ (n : ℕ). bit_and n mask) (sym k.value) ∙ and_assoc mask e.value (bits_looked_at e) ∙ ap (bit_and e.value) wide ∙ k.value in
    let settled : is_settled e (Some mask) (Some known) ≡ true = rw (eq-eqb _ _ wide, eq-eqb _ _ (agree ∙ under)) refl in
    cc
  where
    near_agrees : (a b : ℕ) → not (eqb a b) ≡ false → a ≡ b
    near_agrees a b h = by_test (eqb a b) refl h
      where
        by_test : (t : Bool) → eqb a b ≡ t → not t ≡ false → a ≡ b
        by_test true s n = eqb-true _ _ s
        by_test false s n = absurd cc

pub some_left : (e : MatchField) (mask known rest : ℕ) → IsCondition e → AreWithout (bits_looked_at e) mask rest → is_settled e (Some mask) (Some known) ≡ false → is_apart e (Some mask) (Some known) ≡ false → 0 < rest
some_left e mask known zero k w unsettled near = absurd (unknown_some e mask known zero k w unsettled near refl)
some_left e mask known (suc n) k w unsettled near = omega arith

pub crossing : (e : MatchField) (mask known rest bit : ℕ) → IsCondition e → AreWithout (bits_looked_at e) mask rest → IsBitOf rest bit → Crossing e mask known bit
crossing e mask known rest bit k w b =
    let looked : bit_and bit (bits_looked_at e) ≡ bit = ap (λ (n : ℕ). bit_and n (bits_looked_at e)) (sym b.among) ∙ and_assoc (bits_looked_at e) bit rest ∙ ap (bit_and bit) w.among ∙ b.among in
    record {
      looked_at = record { place = b.place; is = b.is; among = looked };
      within = ap (λ (n : ℕ). bit_and n (ones_of e.field)) (sym looked) ∙ and_assoc (ones_of e.field) bit (bits_looked_at e) ∙ ap (bit_and bit) k.within ∙ looked;
      new = ap (λ (n : ℕ). bit_and n mask) (sym b.among) ∙ and_assoc mask bit rest ∙ ap (bit_and bit) w.none ∙ and_zero bit;
    }
  where
    and_zero : (n : ℕ) → bit_and n 0 ≡ 0
    and_zero n = and_comm n 0 ∙ omega (arith, and_le_l 0 n)
