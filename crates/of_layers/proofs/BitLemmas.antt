-- Numbers as bits: cut, joined and read back.
use Rattle.std.proofs.Common.{◌≡◌, ℕ, zero, suc, ◌+◌, ◌*◌, ◌/◌, ◌%◌, ◌^◌, ◌<◌, List, [], ◌∷◌, ◌++◌, length, take, drop, refl, sym, ap, ◌∙◌, arith, append_assoc}
use Rattle.std.proofs.lemmas.Nat.{shr-shr, mod-pow-add, pow_pos, shr_high, shr_split, mod_below}
use Rattle.std.proofs.Math.Nat.{pow-suc, add-mul-div_right, mod-eq_of_lt, add_comm, zero-add}
use Rattle.std.proofs.lemmas.List.{length-append, take_at, drop_at}
use Rattle.of_layers.specs.Bits.{bits, bits_of}

-- the number that bits are
number : List ℕ → ℕ
number [] = 0
number (b ∷ bs) = b * 2 ^ length bs + number bs

pub length-bits : (n v : ℕ) → length (bits n v) ≡ n
unfolding bits
length-bits zero v = refl
length-bits (suc n) v = ap suc (length-bits n v)

-- the bits above do not count
bits_low : (n h v : ℕ) → bits n (h * 2 ^ n + v) ≡ bits n v
unfolding bits
bits_low zero h v = refl
bits_low (suc n) h v =
    let e : h * 2 ^ suc n + v ≡ v + (2 * h) * 2 ^ n = rw pow-suc (omega arith) in
    let f : v + (2 * h) * 2 ^ n ≡ (2 * h) * 2 ^ n + v = omega arith in
    let q : (v + (2 * h) * 2 ^ n) / 2 ^ n ≡ v / 2 ^ n + 2 * h = add-mul-div_right v (2 * h) (pow_pos n) in
    let d : (v + (2 * h) * 2 ^ n) / 2 ^ n % 2 ≡ v / 2 ^ n % 2 = rw q (omega arith) in
    let t : bits n (v + (2 * h) * 2 ^ n) ≡ bits n v = rw f (bits_low n (2 * h) v) in
    rw e (ap (λ (b : ℕ). b ∷ bits n (v + (2 * h) * 2 ^ n)) d ∙ ap (λ (r : List ℕ). (v / 2 ^ n % 2) ∷ r) t)

suc_sum : (m n : ℕ) → suc m + n ≡ suc (m + n)
suc_sum m n = omega arith

bits_add : (m n v : ℕ) → bits (m + n) v ≡ bits m (v / 2 ^ n) ++ bits n v
unfolding bits
bits_add zero n v = ap (λ (k : ℕ). bits k v) (zero-add n)
bits_add (suc m) n v =
    let d : v / 2 ^ (m + n) ≡ v / 2 ^ n / 2 ^ m = ap (λ (k : ℕ). v / 2 ^ k) (add_comm m n) ∙ sym (shr-shr v n m) in
    rw suc_sum (ap (λ (q : ℕ). (q % 2) ∷ bits (m + n) v) d ∙ ap (λ (r : List ℕ). (v / 2 ^ n / 2 ^ m % 2) ∷ r) (bits_add m n v))

number-bits : (n v : ℕ) → number (bits n v) ≡ v % 2 ^ n
unfolding bits number
number-bits zero v = omega arith
number-bits (suc n) v =
    let a : v % 2 ^ (1 + n) ≡ (v / 2 ^ n % 2 ^ 1) * 2 ^ n + v % 2 ^ n = mod-pow-add v 1 n in
    let b : 1 + n ≡ suc n = omega arith in
    let l : length (bits n v) ≡ n = length-bits n v in
    rw (l, number-bits n v) (sym (rw b at a))

bits_same : (n v w : ℕ) → v < 2 ^ n → w < 2 ^ n → bits n v ≡ bits n w → v ≡ w
bits_same n v w p q e =
    sym (mod-eq_of_lt p) ∙ sym (number-bits n v) ∙ ap number e ∙ number-bits n w ∙ mod-eq_of_lt q

-- a number in two parts, m bits and n bits
pub bits_parts : (m n a b : ℕ) → b < 2 ^ n → bits (m + n) (a * 2 ^ n + b) ≡ bits m a ++ bits n b
bits_parts m n a b h = bits_add m n (a * 2 ^ n + b) ∙ ap (λ (q : ℕ). bits m q ++ bits n (a * 2 ^ n + b)) (shr_high a n b h) ∙ ap (λ (r : List ℕ). bits m a ++ r) (bits_low n a b)

-- a number cut in two
pub bits_cut : (m n v : ℕ) → bits (m + n) v ≡ bits m (v / 2 ^ n) ++ bits n (v % 2 ^ n)
bits_cut m n v = ap (λ (x : ℕ). bits (m + n) x) (sym (shr_split v n)) ∙ bits_parts m n (v / 2 ^ n) (v % 2 ^ n) (mod_below v (2 ^ n) (pow_pos n))

pub length-bits_of : (s : List ℕ) → length (bits_of s) ≡ 8 * length s
unfolding bits_of
length-bits_of [] = refl
length-bits_of (x ∷ s) = omega (arith, length-append (bits 8 x) (bits_of s), length-bits 8 x, length-bits_of s)

pub bits_of-append : (a b : List ℕ) → bits_of (a ++ b) ≡ bits_of a ++ bits_of b
unfolding bits_of
bits_of-append [] b = refl
bits_of-append (x ∷ a) b = ap (λ (r : List ℕ). bits 8 x ++ r) (bits_of-append a b) ∙ sym (append_assoc (bits 8 x) (bits_of a) (bits_of b))

pub append_same : {A : Type 0} (a c x y : List A) → length a ≡ length c → a ++ x ≡ c ++ y → (a ≡ c) × (x ≡ y)
append_same a c x y e h =
    let f : a ≡ c = sym (take_at a x (length c) e) ∙ ap (take (length c)) h ∙ take_at c y (length c) refl in
    let g : x ≡ y = sym (drop_at a x (length c) e) ∙ ap (drop (length c)) h ∙ drop_at c y (length c) refl in
    (f, g)

-- two numbers that the same bits begin with
pub bits_front : (n v w : ℕ) (x y : List ℕ) → v < 2 ^ n → w < 2 ^ n → bits n v ++ x ≡ bits n w ++ y → (v ≡ w) × (x ≡ y)
bits_front n v w x y p q e =
    let r = append_same (bits n v) (bits n w) x y (length-bits n v ∙ sym (length-bits n w)) e in
    (bits_same n v w p q r.0, r.1)

-- two bytes as a word
pub word_bits : (a b : ℕ) → b < 256 → bits 16 (256 * a + b) ≡ bits 8 a ++ bits 8 b
word_bits a b h = ap (bits 16) (omega arith) ∙ bits_parts 8 8 a b h
