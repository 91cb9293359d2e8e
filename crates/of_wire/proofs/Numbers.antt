-- Bytes and the number that they make stand for one another.
use Rattle.std.proofs.Common.{◌≡◌, ℕ, zero, suc, ◌+◌, ◌*◌, ◌/◌, ◌%◌, ◌^◌, ◌<◌, ◌≤◌, List, [], ◌∷◌, ◌++◌, length, get_or, take, drop, refl, sym, ap, ◌∙◌, arith, inl, inr}
use Rattle.std.proofs.lemmas.List.{length-take, get_or-take, get_or-drop, get_or_past, append-nil, take_at}
use Rattle.std.{specs.Int.byte_at, proofs.Math.Nat.mod-lt, proofs.lemmas.Bool.cases_lt, proofs.lemmas.Nat.div-mul-add, proofs.lemmas.Nat.mod-mul-add}
use Rattle.byteorder.specs.Numbers.{big_from-cons, big_from-lt, big_from-take, big_number-reads_back, length-bytes_high_first}
use Rattle.byteorder.specs.Endian.{big_from, big_number, big_bytes}

abbrev pub IsBytes : List ℕ → Type 0
IsBytes bytes = (i : ℕ) → get_or bytes i 0 < 256

pub IsBytes-drop : (n : ℕ) (bytes : List ℕ) → IsBytes bytes → IsBytes (drop n bytes)
IsBytes-drop n bytes h i = rw get_or-drop (h (n + i))

pub IsBytes-take : (n : ℕ) (bytes : List ℕ) → IsBytes bytes → IsBytes (take n bytes)
IsBytes-take n bytes h i =
    elim (cases_lt i n) [
      | inl lt ↦ rw (get_or-take n bytes i 0 lt) (h i)
      | inr le ↦ rw (get_or_past (take n bytes) i 0 (omega (arith, length-take n bytes))) (omega arith)
    ]

pub IsBytes-rest : (b : ℕ) (bytes : List ℕ) → IsBytes (b ∷ bytes) → IsBytes bytes
IsBytes-rest b bytes h i = h (suc i)

byte_at-lt : (k x : ℕ) → byte_at k x < 256
byte_at-lt zero x = mod-lt x (omega arith)
byte_at-lt (suc k) x = mod-lt (x / 256 ^ suc k) (omega arith)

pub IsBytes-big_bytes : (n x : ℕ) → IsBytes (big_bytes n x)
IsBytes-big_bytes zero x i = omega arith
IsBytes-big_bytes (suc n) x zero = byte_at-lt n x
IsBytes-big_bytes (suc n) x (suc i) = IsBytes-big_bytes n x i

-- two lists of n bytes that make one number are one
same_bytes : (n : ℕ) (xs ys : List ℕ) → length xs ≡ n → length ys ≡ n → IsBytes xs → IsBytes ys → big_number n xs ≡ big_number n ys → xs ≡ ys
same_bytes zero [] [] p q f g e = refl
same_bytes zero [] (y ∷ ys) p q f g e = absurd (omega arith)
same_bytes zero (x ∷ xs) ys p q f g e = absurd (omega arith)
same_bytes (suc n) [] ys p q f g e = absurd (omega arith)
same_bytes (suc n) (x ∷ xs) [] p q f g e = absurd (omega arith)
same_bytes (suc n) (x ∷ xs) (y ∷ ys) p q f g e =
    let r = big_from 0 n xs in
    let s = big_from 0 n ys in
    let r_lt : r < 256 ^ n = big_from-lt 0 n xs (IsBytes-rest x xs f) in
    let s_lt : s < 256 ^ n = big_from-lt 0 n ys (IsBytes-rest y ys g) in
    let ex = big_from-cons 0 n x xs in
    let ey = big_from-cons 0 n y ys in
    let whole : x * 256 ^ n + r ≡ y * 256 ^ n + s = omega (arith, e, ex, ey) in
    let heads : x ≡ y = sym (div-mul-add x (256 ^ n) r r_lt) ∙ ap (λ (k : ℕ). k / 256 ^ n) whole ∙ div-mul-add y (256 ^ n) s s_lt in
    let tails : r ≡ s = sym (mod-mul-add x (256 ^ n) r r_lt) ∙ ap (λ (k : ℕ). k % 256 ^ n) whole ∙ mod-mul-add y (256 ^ n) s s_lt in
    let rest : xs ≡ ys = same_bytes n xs ys (omega arith) (omega arith) (IsBytes-rest x xs f) (IsBytes-rest y ys g) tails in
    cc

-- the bytes of the number that bytes make
pub big_bytes-big_number : (n : ℕ) (xs : List ℕ) → n ≤ length xs → IsBytes xs → big_bytes n (big_number n xs) ≡ take n xs
big_bytes-big_number n xs h f =
    let lt : big_number n xs < 256 ^ n = big_from-lt 0 n xs f in
    let back : big_number n (big_bytes n (big_number n xs)) ≡ big_number n xs = ap (big_number n) (sym (append-nil (big_bytes n (big_number n xs)))) ∙ big_number-reads_back n (big_number n xs) [] lt in
    let cut : big_number n (take n xs) ≡ big_number n xs = big_from-take 0 n n xs (omega arith) in
    same_bytes n (big_bytes n (big_number n xs)) (take n xs) (length-bytes_high_first n (big_number n xs)) (omega (arith, length-take n xs)) (IsBytes-big_bytes n (big_number n xs)) (IsBytes-take n xs f) (back ∙ sym cut)

-- a number in n bytes is what n bytes begin with
pub take_number : (n x : ℕ) (rest : List ℕ) → take n (big_bytes n x ++ rest) ≡ big_bytes n x
take_number n x rest = take_at (big_bytes n x) rest n (length-bytes_high_first n x)
