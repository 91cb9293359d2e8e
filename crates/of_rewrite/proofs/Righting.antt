-- Checksums that were right are right after they are updated.
use Rattle.std.proofs.Common.{◌≡◌, ℕ, zero, suc, ◌+◌, ◌-◌, ◌*◌, ◌/◌, ◌%◌, ◌^◌, ◌<◌, ◌≤◌, true, false, List, [], ◌∷◌, ◌++◌, length, take, drop, sum, Some, refl, sym, ap, ◌∙◌, arith, subst, inl, inr}
use Rattle.std.proofs.lemmas.List.{take_at, drop_at, length-append, length-drop, length-take, take-append-le, drop-append-le}
use Rattle.std.{specs.Prelude.◌==◌, specs.Prelude.IsTrue, proofs.lemmas.Bool.cases_eq, proofs.lemmas.Bool.ne_eqb, proofs.lemmas.Bool.eqb-true, proofs.lemmas.Bool.eq-eqb}
use Rattle.std.proofs.{lemmas.List.Sums.sum_by-cons, Math.Nat.mod-eq_of_lt, Math.Nat.pow-le-pow_right}
use Rattle.of_layers.{specs.Bits.bits, specs.Layers.Cell, specs.Layers.encoded, specs.Looking.look_up, specs.Looking.locate_at, proofs.BitLemmas.length-bits}
use Rattle.of_rewrite.specs.Checksum.{fold, number_of_bits, words_of, change, differ, updated, never_zero, sums_to_ones, AreWords}
use Rattle.of_rewrite.{specs.Rewriting.change_at, specs.Rewriting.words, proofs.Changes.changes, proofs.Changes.sum_changed, proofs.Changes.right_by, proofs.Changes.without_word}
use Rattle.of_rewrite.proofs.{Finding.Sound, Finding.Found, Finding.found, Folding.fold_is, Framing.AreBits, Framing.bits_take, Framing.bits_drop, Framing.number_below, Renewing.number-bits}

-- ---- a sum of all ones

abbrev pub Ones : ℕ → Type 0
Ones s = (0 < s) × (s % 65535 ≡ 0)

pub ones : (s : ℕ) → (fold s == 65535) ≡ true → Ones s
ones s h = elim (cases_eq s 0) [
  | inl e ↦ absurd (let z : fold s ≡ 65535 = eqb-true (fold s) 65535 h in let y : fold s ≡ 0 = ap fold e in omega arith)
  | inr ne ↦ let f : fold s ≡ 1 + (s - 1) % 65535 = fold_is s (omega arith) in let z : fold s ≡ 65535 = eqb-true (fold s) 65535 h in (omega arith, omega arith)
]

pub folded : (s : ℕ) → Ones s → (fold s == 65535) ≡ true
folded s h = let f : fold s ≡ 1 + (s - 1) % 65535 = fold_is s h.0 in let a : 0 < s = h.0 in let m : s % 65535 ≡ 0 = h.1 in eq-eqb (fold s) 65535 (omega arith)

-- a checksum that is right stays so
pub right_again : (c : ℕ) (old new : List ℕ) → c < 65536 → AreWords old → length old ≡ length new → 0 < sum new → IsTrue (sums_to_ones (c ∷ old)) → IsTrue (sums_to_ones (updated c old new ∷ new))
right_again c old new h w l p r =
    let before : sum (c ∷ old) ≡ c + sum old = sum_by-cons (λ (k : ℕ). k) c old in
    let after : sum (updated c old new ∷ new) ≡ updated c old new + sum new = sum_by-cons (λ (k : ℕ). k) (updated c old new) new in
    let o : Ones (sum (c ∷ old)) = ones (sum (c ∷ old)) r in
    let some : 0 < sum (c ∷ old) = o.0 in
    let kept = right_by c (sum old) (sum new) (change old new) (changes old new) (omega arith) (sum_changed old new w l) p (omega arith) (ap (λ (n : ℕ). n % 65535) (sym before) ∙ o.1) in
    let more : 0 < updated c old new + sum new = kept.0 in
    folded (sum (updated c old new ∷ new)) (omega arith, ap (λ (n : ℕ). n % 65535) after ∙ kept.1)

pub never_wrong : (c : ℕ) (new : List ℕ) → IsTrue (sums_to_ones (c ∷ new)) → IsTrue (sums_to_ones (never_zero c ∷ new))
never_wrong c new r = elim (cases_eq c 0) [
  | inl e ↦
      let o : Ones (sum (c ∷ new)) = ones (sum (c ∷ new)) r in
      let some : 0 < sum (c ∷ new) = o.0 in
      let whole : sum (c ∷ new) % 65535 ≡ 0 = o.1 in
      let before : sum (c ∷ new) ≡ c + sum new = sum_by-cons (λ (k : ℕ). k) c new in
      let after : sum (65535 ∷ new) ≡ 65535 + sum new = sum_by-cons (λ (k : ℕ). k) 65535 new in
      let is : never_zero c ≡ 65535 = ap never_zero e in
      subst (λ (k : ℕ). IsTrue (sums_to_ones (k ∷ new))) (sym is) (folded (sum (65535 ∷ new)) (omega arith, omega arith))
  | inr ne ↦ let is : never_zero c ≡ c = rw (ne_eqb c 0 ne) refl in subst (λ (k : ℕ). IsTrue (sums_to_ones (k ∷ new))) (sym is) r
]

-- ---- words where one is put

pub sum_mid : (a b : List ℕ) (x : ℕ) → sum (a ++ (x ∷ b)) ≡ x + sum (a ++ b)
sum_mid [] b x = sum_by-cons (λ (k : ℕ). k) x b
sum_mid (y ∷ a) b x = sum_by-cons (λ (k : ℕ). k) y (a ++ (x ∷ b)) ∙ omega (arith, sum_mid a b x, sum_by-cons (λ (k : ℕ). k) y (a ++ b))

-- the sum of all others is m more
pub renewed_ones : (m c w : ℕ) (a b x y : List ℕ) → c < 65536 → AreWords (a ++ b) → length a ≡ length x → length b ≡ length y → 0 < m + sum (x ++ y) → Ones (m + sum (a ++ (c ∷ b))) →
    w ≡ updated c (a ++ (c ∷ b)) (x ++ (c ∷ y)) → Ones (m + sum (x ++ (w ∷ y)))
renewed_ones m c w a b x y small are f g some h e =
    let z : w ≡ updated c (a ++ b) (x ++ y) = e ∙ without_word c c a x b y f in
    let s : sum (a ++ (c ∷ b)) ≡ c + sum (a ++ b) = sum_mid a b c in
    let t : sum (x ++ (w ∷ y)) ≡ w + sum (x ++ y) = sum_mid x y w in
    let l : length (a ++ b) ≡ length (x ++ y) = omega (arith, length-append a b, length-append x y) in
    let d : change (a ++ b) (x ++ y) + sum (a ++ b) ≡ 65535 * changes (a ++ b) (x ++ y) + sum (x ++ y) = sum_changed (a ++ b) (x ++ y) are l in
    let h0 : 0 < m + sum (a ++ (c ∷ b)) = h.0 in
    let h1 : (m + sum (a ++ (c ∷ b))) % 65535 ≡ 0 = h.1 in
    let r = right_by c (m + sum (a ++ b)) (m + sum (x ++ y)) (change (a ++ b) (x ++ y)) (changes (a ++ b) (x ++ y)) (omega arith) (omega arith) some (omega arith) (let k : c + (m + sum (a ++ b)) ≡ m + sum (a ++ (c ∷ b)) = omega arith in ap (λ (n : ℕ). n % 65535) k ∙ h1) in
    let r0 : 0 < updated c (a ++ b) (x ++ y) + (m + sum (x ++ y)) = r.0 in
    let r1 : (updated c (a ++ b) (x ++ y) + (m + sum (x ++ y))) % 65535 ≡ 0 = r.1 in
    let k : m + sum (x ++ (w ∷ y)) ≡ updated c (a ++ b) (x ++ y) + (m + sum (x ++ y)) = omega arith in
    (omega arith, ap (λ (n : ℕ). n % 65535) k ∙ r1)

-- 65535 in the place of 0
pub never_zero_ones : (m c : ℕ) (x y : List ℕ) → Ones (m + sum (x ++ (c ∷ y))) → Ones (m + sum (x ++ (never_zero c ∷ y)))
never_zero_ones m c x y h = elim (cases_eq c 0) [
  | inl e ↦
      let h0 : 0 < m + sum (x ++ (c ∷ y)) = h.0 in
      let h1 : (m + sum (x ++ (c ∷ y))) % 65535 ≡ 0 = h.1 in
      let s : sum (x ++ (c ∷ y)) ≡ c + sum (x ++ y) = sum_mid x y c in
      let t : sum (x ++ (65535 ∷ y)) ≡ 65535 + sum (x ++ y) = sum_mid x y 65535 in
      let u : never_zero c ≡ 65535 = ap never_zero e in
      subst (λ (k : ℕ). Ones (m + sum (x ++ (k ∷ y)))) (sym u) (omega arith, omega arith)
  | inr ne ↦ let u : never_zero c ≡ c = rw (ne_eqb c 0 ne) refl in subst (λ (k : ℕ). Ones (m + sum (x ++ (k ∷ y)))) (sym u) h
]

pub differ_same : (a b : List ℕ) → length a ≡ length b → differ a b ≡ false → a ≡ b
differ_same [] [] l h = refl
differ_same [] (y ∷ b) l h = absurd (omega arith)
differ_same (x ∷ a) [] l h = absurd (omega arith)
differ_same (x ∷ a) (y ∷ b) l h = elim (cases_eq x y) [
  | inl e ↦ let r : differ a b ≡ false = rw (eq-eqb x y e) at h in λ j. e j ∷ differ_same a b (omega arith) r j
  | inr ne ↦ absurd (let r : true ≡ false = rw (ne_eqb x y ne) at h in cc)
]

-- ---- words of bits

pub words_below : (n : ℕ) (s : List ℕ) → AreBits s → AreWords (words_of n s)
unfolding words_of
words_below zero s h i = omega arith
words_below (suc n) s h zero =
    let l : length (take 16 s) ≤ 16 = omega (arith, length-take 16 s) in
    let p : 2 ^ length (take 16 s) ≤ 2 ^ 16 = pow-le-pow_right (omega arith) l in
    let k : number_of_bits (take 16 s) < 2 ^ length (take 16 s) = number_below (take 16 s) (bits_take 16 s h) in
    omega arith
words_below (suc n) s h (suc i) = words_below n (drop 16 s) (bits_drop 16 s h) i

pub length_words : (n : ℕ) (s : List ℕ) → length (words_of n s) ≡ n
unfolding words_of
length_words zero s = refl
length_words (suc n) s = ap suc (length_words n (drop 16 s))

words_mid : (k m n : ℕ) (a b : List ℕ) (c : ℕ) → length a ≡ 16 * k → n ≡ k + (1 + m) → words_of n (a ++ (bits 16 c ++ b)) ≡ words_of k a ++ ((c % 65536) ∷ words_of m b)
unfolding words_of
words_mid k m zero a b c l e = absurd (omega arith)
words_mid zero m (suc n) [] b c l e =
    let t : take 16 (bits 16 c ++ b) ≡ bits 16 c = take_at (bits 16 c) b 16 (length-bits 16 c) in
    let d : drop 16 (bits 16 c ++ b) ≡ b = drop_at (bits 16 c) b 16 (length-bits 16 c) in
    let v : number_of_bits (take 16 (bits 16 c ++ b)) ≡ c % 65536 = ap number_of_bits t ∙ number-bits 16 c in
    let r : words_of n (drop 16 (bits 16 c ++ b)) ≡ words_of m b = ap (words_of n) d ∙ ap (λ (j : ℕ). words_of j b) (omega arith) in
    λ j. v j ∷ r j
words_mid zero m (suc n) (x ∷ a) b c l e = absurd (omega arith)
words_mid (suc k) m (suc n) a b c l e =
    let t : take 16 (a ++ (bits 16 c ++ b)) ≡ take 16 a = take-append-le 16 a (bits 16 c ++ b) (omega arith) in
    let d : drop 16 (a ++ (bits 16 c ++ b)) ≡ drop 16 a ++ (bits 16 c ++ b) = drop-append-le 16 a (bits 16 c ++ b) (omega arith) in
    let r : words_of n (drop 16 a ++ (bits 16 c ++ b)) ≡ words_of k (drop 16 a) ++ ((c % 65536) ∷ words_of m b) = words_mid k m n (drop 16 a) b c (omega (arith, length-drop 16 a)) (omega arith) in
    λ j. number_of_bits (t j) ∷ (ap (words_of n) d ∙ r) j

-- the words of cells, where one is that of a number
pub record Split (n : ℕ) (cs : List Cell) (v : ℕ) (k m : ℕ) : Type 0 where
  pub front : List ℕ
  pub back : List ℕ
  pub is : words cs ≡ front ++ (v ∷ back)
  pub changed : (g : ℕ → ℕ) → words (change_at n g cs) ≡ front ++ ((g v % 65536) ∷ back)
  pub front_long : length front ≡ k
  pub back_long : length back ≡ m

pub split : (n k m : ℕ) (cs : List Cell) (v : ℕ) → Sound cs → locate_at 0 n cs ≡ Some (record { first = 16 * k; bits = 16 }) → length (encoded cs) ≡ 16 * (k + (1 + m)) → look_up n cs ≡ Some v → Split n cs v k m
split n k m cs v h e l look =
    let r : Found n 0 cs (record { first = 16 * k; bits = 16 }) = found n 0 cs (record { first = 16 * k; bits = 16 }) e in
    let same : Some r.value ≡ Some v = sym r.look ∙ look in
    let value : r.value ≡ v = cc in
    let small : r.value < 65536 = r.small h in
    let long : length r.front ≡ 16 * k = omega (arith, r.below) in
    let all : length (r.front ++ (bits 16 r.value ++ r.back)) ≡ 16 * (k + (1 + m)) = ap length (sym r.is) ∙ l in
    let count : (x : ℕ) → length (r.front ++ (bits 16 x ++ r.back)) / 16 ≡ k + (1 + m) = λ x.
    omega (arith, all, length-append r.front (bits 16 r.value ++ r.back), length-append (bits 16 r.value) r.back, length-append r.front (bits 16 x ++ r.back), length-append (bits 16 x) r.back, length-bits 16 x, length-bits 16 r.value) in
    let over_bits : (x : ℕ) → words_of (length (r.front ++ (bits 16 x ++ r.back)) / 16) (r.front ++ (bits 16 x ++ r.back)) ≡ words_of k r.front ++ ((x % 65536) ∷ words_of m r.back) = λ x.
    words_mid k m (length (r.front ++ (bits 16 x ++ r.back)) / 16) r.front r.back x long (count x) in
    record {
      front = words_of k r.front;
      back = words_of m r.back;
      is = ap (λ (s : List ℕ). words_of (length s / 16) s) r.is ∙ over_bits r.value ∙ ap (λ (x : ℕ). words_of k r.front ++ (x ∷ words_of m r.back)) (mod-eq_of_lt small ∙ value);
      changed = λ g. ap (λ (s : List ℕ). words_of (length s / 16) s) (r.changed g) ∙ over_bits (g r.value) ∙ ap (λ (x : ℕ). words_of k r.front ++ ((g x % 65536) ∷ words_of m r.back)) value;
      front_long = length_words k r.front;
      back_long = length_words m r.back;
    }
