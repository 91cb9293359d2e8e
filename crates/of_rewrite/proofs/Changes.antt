-- Changes of words add up, and keep a checksum right.
use Rattle.std.proofs.Common.{◌≡◌, ℕ, suc, ◌+◌, ◌-◌, ◌*◌, ◌%◌, ◌<◌, ◌≤◌, ◌⊎◌, inl, inr, Bool, true, false, cond, List, [], ◌∷◌, ◌++◌, length, sum, refl, sym, ap, ◌∙◌, arith, zero-add, eq-eqb}
use Rattle.std.{specs.Prelude.◌==◌, specs.Prelude.not, specs.Prelude.◌||◌, proofs.lemmas.Bool.cases_eq, proofs.lemmas.Bool.ne_eqb, proofs.lemmas.List.Sums.sum_by-cons}
use Rattle.of_rewrite.specs.Checksum.{fold, change, differ, updated, AreWords}
use Rattle.of_rewrite.proofs.Folding.{fold_is, fold_small}

-- ---- one change after another

fold_again : (x y : ℕ) → fold (fold x + y) ≡ fold (x + y)
fold_again x y = elim (cases_eq x 0) [
  | inl e ↦ rw e refl
  | inr ne ↦
      let f : fold x ≡ 1 + (x - 1) % 65535 = fold_is x (omega arith) in
      let g : fold (1 + (x - 1) % 65535 + y) ≡ 1 + (1 + (x - 1) % 65535 + y - 1) % 65535 = fold_is (1 + (x - 1) % 65535 + y) (omega arith) in
      let same : 1 + (1 + (x - 1) % 65535 + y - 1) % 65535 ≡ 1 + (x + y - 1) % 65535 = omega arith in
      ap (λ (k : ℕ). fold (k + y)) f ∙ g ∙ same ∙ sym (fold_is (x + y) (omega arith))
]

fold_below : (x : ℕ) → fold x ≤ 65535
fold_below x = elim (cases_eq x 0) [
  | inl e ↦ rw e (omega arith)
  | inr ne ↦ let f : fold x ≡ 1 + (x - 1) % 65535 = fold_is x (omega arith) in omega arith
]

pub renewed_below : (c : ℕ) (old new : List ℕ) → updated c old new ≤ 65535
renewed_below c old new = omega arith

-- a change in two steps
pub renewed_then : (c a b : ℕ) → 65535 - fold (65535 - (65535 - fold (65535 - c + a)) + b) ≡ 65535 - fold (65535 - c + (a + b))
renewed_then c a b =
    let f : fold (65535 - c + a) ≤ 65535 = fold_below (65535 - c + a) in
    let e : 65535 - (65535 - fold (65535 - c + a)) ≡ fold (65535 - c + a) = omega arith in
    let g : 65535 - c + a + b ≡ 65535 - c + (a + b) = omega arith in
    ap (λ (k : ℕ). 65535 - fold (k + b)) e ∙ ap (λ (k : ℕ). 65535 - k) (fold_again (65535 - c + a) b ∙ ap fold g)

pub same_word : (x : ℕ) → (x == x) ≡ true
same_word x = eq-eqb x x refl

pub change_none : (a : List ℕ) → change a a ≡ 0
change_none [] = refl
change_none (x ∷ a) = rw (same_word x, change_none a) refl

pub differ_none : (a : List ℕ) → differ a a ≡ false
differ_none [] = refl
differ_none (x ∷ a) = rw (same_word x, differ_none a) refl

pub or_false : (a : Bool) → (a || false) ≡ a
or_false true = refl
or_false false = refl

-- without a change
pub renewed_same : (c : ℕ) (a : List ℕ) → c ≤ 65535 → updated c a a ≡ c
renewed_same c a h =
    let z : 65535 - c + change a a ≡ 65535 - c = ap (λ (k : ℕ). 65535 - c + k) (change_none a) ∙ omega arith in
    let f : fold (65535 - c + change a a) ≡ 65535 - c = ap fold z ∙ fold_small (65535 - c) (omega arith) in
    omega arith

pub change_append : (a a' b b' : List ℕ) → length a ≡ length a' → change (a ++ b) (a' ++ b') ≡ change a a' + change b b'
change_append [] [] b b' h = omega arith
change_append [] (x ∷ a') b b' h = absurd (omega arith)
change_append (x ∷ a) [] b b' h = absurd (omega arith)
change_append (x ∷ a) (y ∷ a') b b' h = let i = change_append a a' b b' (omega arith) in rw i (omega arith)

or_assoc : (a b c : Bool) → (a || (b || c)) ≡ ((a || b) || c)
or_assoc true b c = refl
or_assoc false b c = refl

pub differ_append : (a a' b b' : List ℕ) → length a ≡ length a' → differ (a ++ b) (a' ++ b') ≡ (differ a a' || differ b b')
differ_append [] [] b b' h = refl
differ_append [] (x ∷ a') b b' h = absurd (omega arith)
differ_append (x ∷ a) [] b b' h = absurd (omega arith)
differ_append (x ∷ a) (y ∷ a') b b' h = ap (λ (t : Bool). not (x == y) || t) (differ_append a a' b b' (omega arith)) ∙ or_assoc (not (x == y)) (differ a a') (differ b b')

pub or_right : (a b c : Bool) → ((a || b) || c) ≡ (a || (b || c))
or_right true b c = refl
or_right false b c = refl

or_front : (t a b : Bool) → (not t || (a || b)) ≡ ((not t || a) || b)
or_front true a b = refl
or_front false a b = refl

or_between : (t a b : Bool) → (not t || (a || b)) ≡ ((not true || a) || (not t || b))
or_between true a b = refl
or_between false true b = refl
or_between false false b = refl

-- each word changes in one of two steps at most
abbrev pub Apart : List ℕ → List ℕ → List ℕ → Type 0
Apart [] [] [] = Unit {0}
Apart (x ∷ a) (y ∷ b) (z ∷ c) = ((x ≡ y) ⊎ (y ≡ z)) × Apart a b c
Apart a b c = ⊥

pub change_over : (a b c : List ℕ) → Apart a b c → (change a c ≡ change a b + change b c) × (differ a c ≡ (differ a b || differ b c))
change_over [] [] [] h = (refl, refl)
change_over [] [] (z ∷ c) h = absurd h
change_over [] (y ∷ b) c h = absurd h
change_over (x ∷ a) [] c h = absurd h
change_over (x ∷ a) (y ∷ b) [] h = absurd h
change_over (x ∷ a) (y ∷ b) (z ∷ c) h =
    let i = change_over a b c h.1 in
    elim h.0 [
      | inl e ↦ (rw (e, same_word y, i.0) (omega arith), rw (e, same_word y, i.1) (or_between (y == z) (differ a b) (differ b c)))
      | inr e ↦ (rw (← e, same_word y, i.0) (omega arith), rw (← e, same_word y, i.1) (or_front (x == y) (differ a b) (differ b c)))
    ]

-- ---- a checksum that is right stays so

abbrev pub changes : List ℕ → List ℕ → ℕ
changes [] new = 0
changes (o ∷ old) [] = 0
changes (o ∷ old) (n ∷ new) = cond (o == n) 0 1 + changes old new

sum_step : (o n s t c k : ℕ) → o < 65536 → c + s ≡ 65535 * k + t → (cond (o == n) 0 (65535 - o + n) + c) + (o + s) ≡ 65535 * (cond (o == n) 0 1 + k) + (n + t)
sum_step o n s t c k h i = elim (cases_eq o n) [
  | inl e ↦ rw (e, same_word n) (omega arith)
  | inr ne ↦ rw (ne_eqb o n ne) (omega arith)
]

pub sum_changed : (old new : List ℕ) → AreWords old → length old ≡ length new → change old new + sum old ≡ 65535 * changes old new + sum new
sum_changed [] [] h l = refl
sum_changed [] (n ∷ new) h l = absurd (omega arith)
sum_changed (o ∷ old) [] h l = absurd (omega arith)
sum_changed (o ∷ old) (n ∷ new) h l =
    let i = sum_changed old new (λ i. h (suc i)) (omega arith) in
    rw (sum_by-cons (λ (x : ℕ). x) o old, sum_by-cons (λ (x : ℕ). x) n new) (sum_step o n (sum old) (sum new) (change old new) (changes old new) (h 0) i)

pub right_by : (c s t x k : ℕ) → c ≤ 65535 → x + s ≡ 65535 * k + t → 0 < t → 0 < c + s → (c + s) % 65535 ≡ 0 → (0 < 65535 - fold (65535 - c + x) + t) × ((65535 - fold (65535 - c + x) + t) % 65535 ≡ 0)
right_by c s t x k h e p q r = elim (cases_eq (65535 - c + x) 0) [
  | inl z ↦ rw z (omega arith, omega arith)
  | inr ne ↦
      let f : fold (65535 - c + x) ≡ 1 + (65535 - c + x - 1) % 65535 = fold_is (65535 - c + x) (omega arith) in
      rw f (omega arith, omega arith)
]

off_by : (c s t x k : ℕ) → c ≤ 65535 → x + s ≡ 65535 * k + t → (65535 - fold (65535 - c + x) + t) % 65535 ≡ (c + s) % 65535
off_by c s t x k h e = elim (cases_eq (65535 - c + x) 0) [
  | inl z ↦ rw z (omega arith)
  | inr ne ↦
      let f : fold (65535 - c + x) ≡ 1 + (65535 - c + x - 1) % 65535 = fold_is (65535 - c + x) (omega arith) in
      rw f (omega arith)
]

-- a checksum that is off stays off by as much
pub off_again : (c : ℕ) (old new : List ℕ) → c < 65536 → AreWords old → length old ≡ length new → (updated c old new + sum new) % 65535 ≡ (c + sum old) % 65535
off_again c old new h w l = off_by c (sum old) (sum new) (change old new) (changes old new) (omega arith) (sum_changed old new w l)

-- a word that stays makes no difference
pub without_word : (c w : ℕ) (a x b y : List ℕ) → length a ≡ length x → updated c (a ++ (w ∷ b)) (x ++ (w ∷ y)) ≡ updated c (a ++ b) (x ++ y)
without_word c w a x b y h =
    let one : change (w ∷ b) (w ∷ y) ≡ change b y = rw (same_word w) (zero-add (change b y)) in
    let sums : change (a ++ (w ∷ b)) (x ++ (w ∷ y)) ≡ change (a ++ b) (x ++ y) = change_append a x (w ∷ b) (w ∷ y) h ∙ ap (λ (k : ℕ). change a x + k) one ∙ sym (change_append a x b y h) in
    ap (λ (k : ℕ). 65535 - fold (65535 - c + k)) sums
