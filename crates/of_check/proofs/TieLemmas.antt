-- Whether one of some entries has a priority.
use Rattle.std.proofs.Common.{◌≡◌, ℕ, ◌<◌, zero, suc, Bool, true, false, List, [], ◌∷◌, length, get_or, Some, refl, ap, ◌∙◌, arith}
use Rattle.std.specs.{Prelude.slice_get, Prelude.◌||◌, List.list_any}
use Rattle.of_table.specs.Table.{FlowEntry}
use Rattle.of_check.specs.Verdicts.{are_level, is_tie}

or_true : (a b : Bool) → b ≡ true → (a || b) ≡ true
or_true true b e = refl
or_true false b e = e

any_found : (P : ℕ → Bool) (xs : List ℕ) (i d : ℕ) → i < length xs → P (get_or xs i d) ≡ true → list_any P xs ≡ true
any_found P [] i d lt e = absurd (omega (arith, lt))
any_found P (x ∷ xs) zero d lt e = rw e refl
any_found P (x ∷ xs) (suc i) d lt e = or_true (P x) (list_any P xs) (any_found P xs i d (omega (arith, lt)) e)

any_none : (P : ℕ → Bool) (xs : List ℕ) → ((i : ℕ) → i < length xs → P (get_or xs i 0) ≡ false) → list_any P xs ≡ false
any_none P [] h = refl
any_none P (x ∷ xs) h = rw (h 0 (omega arith)) (any_none P xs (λ i lt. h (suc i) (omega (arith, lt))))

module _ (flows : List FlowEntry) (k : ℕ) (own : FlowEntry) (there : slice_get flows k ≡ Some own) where
  same_level : (j : ℕ) (b : Bool) → are_level (slice_get flows j) (Some own) ≡ b → are_level (slice_get flows j) (slice_get flows k) ≡ b
  same_level j b e = ap (are_level (slice_get flows j)) there ∙ e

  pub is_tied : (by : List ℕ) (i d : ℕ) → i < length by → are_level (slice_get flows (get_or by i d)) (Some own) ≡ true → is_tie flows k by ≡ true
  is_tied by i d lt e = any_found (λ j. are_level (slice_get flows j) (slice_get flows k)) by i d lt (same_level (get_or by i d) true e)

  pub not_tied : (by : List ℕ) → ((i : ℕ) → i < length by → are_level (slice_get flows (get_or by i 0)) (Some own) ≡ false) → is_tie flows k by ≡ false
  not_tied by h = any_none (λ j. are_level (slice_get flows j) (slice_get flows k)) by (λ i lt. same_level (get_or by i 0) false (h i lt))
