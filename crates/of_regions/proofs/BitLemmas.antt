-- Bits under masks.
use Rattle.std.proofs.Common.{◌≡◌, ℕ, ◌-◌, ap, arith}
use Rattle.std.specs.{Prelude.bit_and, Prelude.bit_or, Int.bit_at}
use Rattle.std.proofs.lemmas.Nat.Bits.{bit_at_and, bit_at_or, bit_at-lt, same_from_bits}

-- what two masks see, and what each sees
module _ (w m k bits said : ℕ) where
  pub both_seen : bit_and w m ≡ k → bit_and w bits ≡ said → bit_and w (bit_or m bits) ≡ bit_or k said
  both_seen a b = same_from_bits _ _ (λ i.
      let p : bit_at (bit_and w m) i ≡ bit_at k i = ap (λ (n : ℕ). bit_at n i) a in
      let q : bit_at (bit_and w bits) i ≡ bit_at said i = ap (λ (n : ℕ). bit_at n i) b in
      omega (arith, p, q, bit_at_and w (bit_or m bits) i, bit_at_or m bits i, bit_at_or k said i, bit_at_and w m i, bit_at_and w bits i))

  pub first_seen : bit_and k m ≡ k → bit_and said bits ≡ said → bit_and k bits ≡ bit_and said m → bit_and w (bit_or m bits) ≡ bit_or k said → bit_and w m ≡ k
  first_seen u s e h = same_from_bits _ _ (λ i.
      let a : bit_at (bit_and k m) i ≡ bit_at k i = ap (λ (n : ℕ). bit_at n i) u in
      let b : bit_at (bit_and said bits) i ≡ bit_at said i = ap (λ (n : ℕ). bit_at n i) s in
      let c : bit_at (bit_and k bits) i ≡ bit_at (bit_and said m) i = ap (λ (n : ℕ). bit_at n i) e in
      let d : bit_at (bit_and w (bit_or m bits)) i ≡ bit_at (bit_or k said) i = ap (λ (n : ℕ). bit_at n i) h in
      omega (arith, a, b, c, d, bit_at_and k m i, bit_at_and said bits i, bit_at_and k bits i, bit_at_and said m i, bit_at_and w (bit_or m bits) i, bit_at_or m bits i, bit_at_or k said i, bit_at_and w m i, bit_at-lt w i, bit_at-lt m i, bit_at-lt k i, bit_at-lt bits i, bit_at-lt said i))

  pub seen_twice : bit_and w m ≡ k → bit_and w bits ≡ said → bit_and k bits ≡ bit_and said m
  seen_twice a b = same_from_bits _ _ (λ i.
      let p : bit_at (bit_and w m) i ≡ bit_at k i = ap (λ (n : ℕ). bit_at n i) a in
      let q : bit_at (bit_and w bits) i ≡ bit_at said i = ap (λ (n : ℕ). bit_at n i) b in
      omega (arith, p, q, bit_at_and w m i, bit_at_and w bits i, bit_at_and k bits i, bit_at_and said m i))

pub within_both : (m bits ones : ℕ) → bit_and m ones ≡ m → bit_and bits ones ≡ bits → bit_and (bit_or m bits) ones ≡ bit_or m bits
within_both m bits ones a b = same_from_bits _ _ (λ i.
    let p : bit_at (bit_and m ones) i ≡ bit_at m i = ap (λ (n : ℕ). bit_at n i) a in
    let q : bit_at (bit_and bits ones) i ≡ bit_at bits i = ap (λ (n : ℕ). bit_at n i) b in
    omega (arith, p, q, bit_at_and m ones i, bit_at_and bits ones i, bit_at_and (bit_or m bits) ones i, bit_at_or m bits i))

-- a mask that has all bits of another, and what is known under both
module _ (m bits k said : ℕ) where
  pub mask_ruled : bit_and (bit_or m bits) bits ≡ bits
  mask_ruled = same_from_bits _ _ (λ i. omega (arith, bit_at_and (bit_or m bits) bits i, bit_at_or m bits i))

  pub known_under : bit_and k m ≡ k → bit_and said bits ≡ said → bit_and (bit_or k said) (bit_or m bits) ≡ bit_or k said
  known_under u s = same_from_bits _ _ (λ i.
      let a : bit_at (bit_and k m) i ≡ bit_at k i = ap (λ (n : ℕ). bit_at n i) u in
      let b : bit_at (bit_and said bits) i ≡ bit_at said i = ap (λ (n : ℕ). bit_at n i) s in
      omega (arith, a, b, bit_at_and k m i, bit_at_and said bits i, bit_at_and (bit_or k said) (bit_or m bits) i, bit_at_or k said i, bit_at_or m bits i))

  pub known_said : bit_and k m ≡ k → bit_and said bits ≡ said → bit_and k bits ≡ bit_and said m → bit_and (bit_or k said) bits ≡ said
  known_said u s e = same_from_bits _ _ (λ i.
      let b : bit_at (bit_and said bits) i ≡ bit_at said i = ap (λ (n : ℕ). bit_at n i) s in
      let c : bit_at (bit_and k bits) i ≡ bit_at (bit_and said m) i = ap (λ (n : ℕ). bit_at n i) e in
      omega (arith, b, c, bit_at_and said bits i, bit_at_and k bits i, bit_at_and said m i, bit_at_and (bit_or k said) bits i, bit_at_or k said i))
