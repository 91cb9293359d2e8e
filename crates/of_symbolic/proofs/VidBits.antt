-- The bits of VLAN_VID: the bit 0x1000, and the 12 bits of a VID.
use Rattle.std.proofs.Common.{◌≡◌, ℕ, ◌+◌, ◌*◌, ◌/◌, ◌%◌, ◌^◌, ◌<◌, inl, inr, true, eqb, Option, Some, None, refl, sym, ap, ◌∙◌, arith}
use Rattle.std.{specs.Prelude.bit_and, specs.Prelude.IfSome, specs.Prelude.unwrap_or, specs.Prelude.◌&&◌, proofs.lemmas.Bool.cases_eq, proofs.lemmas.Bool.eq-eqb, proofs.lemmas.Bool.ne_eqb}
use Rattle.std.proofs.lemmas.Nat.{and_block, and_le_l, and_le_r, and_mod}
use Rattle.of_headers.specs.FieldMap.{vid}

pub zero_and : (m : ℕ) → bit_and 0 m ≡ 0
zero_and m = omega (arith, and_le_l 0 m)

pub and_zero : (x : ℕ) → bit_and x 0 ≡ 0
and_zero x = omega (arith, and_le_r x 0)

one_and : (a : ℕ) → a < 2 → bit_and 1 a ≡ a
one_and a h = elim (cases_eq a 0) [
  | inl z ↦ rw z refl
  | inr n ↦ let one : a ≡ 1 = omega arith in rw one refl
]

-- VLAN_VID of a packet with a tag under a mask: the bit 0x1000 if the mask has it, and the VID under the other bits
pub high_low : (x m : ℕ) → x < 4096 → m < 8192 → bit_and (4096 + x) m ≡ 4096 * (m / 4096) + bit_and x (m % 4096)
high_low x m h k =
    let block : bit_and (1 * 2 ^ 12 + x) (m / 4096 * 2 ^ 12 + m % 4096) ≡ bit_and 1 (m / 4096) * 2 ^ 12 + bit_and x (m % 4096) = and_block 12 1 (m / 4096) x (m % 4096) h (omega arith) in
    let whole : m / 4096 * 2 ^ 12 + m % 4096 ≡ m = omega arith in
    let high : bit_and 1 (m / 4096) ≡ m / 4096 = one_and (m / 4096) (omega arith) in
    let b : bit_and (1 * 2 ^ 12 + x) m ≡ bit_and 1 (m / 4096) * 2 ^ 12 + bit_and x (m % 4096) = rw whole at block in
    b ∙ omega (arith, high)

same_parts : (a b w : ℕ) → b < 4096 → eqb (4096 * a + b) w ≡ (eqb a (w / 4096) && eqb b (w % 4096))
same_parts a b w h = elim (cases_eq a (w / 4096)) [
  | inl e ↦ elim (cases_eq b (w % 4096)) [
    | inl f ↦ rw (eq-eqb a (w / 4096) e, eq-eqb b (w % 4096) f) (eq-eqb (4096 * a + b) w (omega arith))
    | inr n ↦ rw (eq-eqb a (w / 4096) e, ne_eqb b (w % 4096) n) (ne_eqb (4096 * a + b) w (λ s. n (omega arith)))
  ]
  | inr n ↦ rw (ne_eqb a (w / 4096) n) (ne_eqb (4096 * a + b) w (λ s. n (omega arith)))
]

pub vid_agrees : (x m w : ℕ) → x < 4096 → m < 8192 → eqb (bit_and (4096 + x) m) w ≡ (eqb (m / 4096) (w / 4096) && eqb (bit_and x (m % 4096)) (w % 4096))
vid_agrees x m w h k = ap (λ (n : ℕ). eqb n w) (high_low x m h k) ∙ same_parts (m / 4096) (bit_and x (m % 4096)) w (omega (arith, and_le_l x (m % 4096)))

-- a value within its mask has no VID bits if the mask has none
pub none_left : (x m w : ℕ) → bit_and w m ≡ w → m % 4096 ≡ 0 → eqb (bit_and x (m % 4096)) (w % 4096) ≡ true
none_left x m w h z =
    let low : w % 4096 ≡ bit_and (w % 4096) (m % 4096) = ap (λ (n : ℕ). n % 4096) (sym h) ∙ and_mod w m 12 in
    let none : w % 4096 ≡ 0 = low ∙ ap (bit_and (w % 4096)) z ∙ and_zero (w % 4096) in
    eq-eqb _ _ (ap (bit_and x) z ∙ and_zero x ∙ sym none)

-- a mask of VID bits sees the VID, and 0 if there is no tag
pub vid_under : (o : Option ℕ) (m : ℕ) → IfSome o (λ n. n < 4096) → m < 4096 → bit_and (vid o) m ≡ bit_and (unwrap_or o 0) m
vid_under None m h k = refl
vid_under (Some n) m h k =
    let high : m / 4096 ≡ 0 = omega arith in
    let low : m % 4096 ≡ m = omega arith in
    let two : bit_and (4096 + n) m ≡ 4096 * (m / 4096) + bit_and n (m % 4096) = high_low n m h (omega arith) in
    let flat : 4096 * (m / 4096) + bit_and n (m % 4096) ≡ bit_and n m = rw (high, low) (omega arith) in
    two ∙ flat

-- the bit 0x1000 says whether there is a tag
pub present_bit : (n : ℕ) → n < 4096 → bit_and (4096 + n) 4096 ≡ 4096
present_bit n h = high_low n 4096 h (omega arith) ∙ omega (arith, and_zero n)
