-- What is live, group by group of a chain, and the places of buckets.
use Rattle.std.proofs.Common.{◌≡◌, ℕ, zero, suc, ◌+◌, ◌-◌, ◌<◌, Bool, false, List, [], ◌∷◌, ◌++◌, length, Some, None, refl, ap, ◌∙◌, arith}
use Rattle.std.specs.List.{range_with_len}
use Rattle.of_groups.specs.{declared.group.Group.Group, Groups.find_group, Liveness.is_live_kind, Liveness.is_live_within}

pub within_none_left : (groups : List Group) (port : ℕ → Bool) (k n : ℕ) → k ≡ 0 → is_live_within groups port k n ≡ false
unfolding is_live_within
within_none_left groups port k n e = rw e refl

pub within_absent : (groups : List Group) (port : ℕ → Bool) (k n : ℕ) → find_group n groups ≡ None → is_live_within groups port k n ≡ false
unfolding is_live_within
within_absent groups port zero n e = refl
within_absent groups port (suc k) n e = rw e refl

pub within_there : (groups : List Group) (port : ℕ → Bool) (k n : ℕ) (g : Group) → 0 < k → find_group n groups ≡ Some g → is_live_within groups port k n ≡ is_live_kind port (is_live_within groups port (k - 1)) g.kind g.buckets
unfolding is_live_within
within_there groups port zero n g lt e = absurd (omega (arith, lt))
within_there groups port (suc k) n g lt e = let less : suc k - 1 ≡ k = omega arith in rw (e, less) refl

-- ---- places

range_more_from : (a n : ℕ) → range_with_len a (suc n) ≡ range_with_len a n ++ (a + n) ∷ []
range_more_from a zero = let same : a + 0 ≡ a = omega arith in rw same refl
range_more_from a (suc n) =
    let same : a + 1 + n ≡ a + suc n = omega arith in
    ap (λ (xs : List ℕ). a ∷ xs) (range_more_from (a + 1) n ∙ ap (λ (m : ℕ). range_with_len (a + 1) n ++ m ∷ []) same)

pub range_more : (n : ℕ) → range_with_len 0 (n + 1) ≡ range_with_len 0 n ++ n ∷ []
range_more n =
    let next : n + 1 ≡ suc n = omega arith in
    let same : 0 + n ≡ n = omega arith in
    ap (range_with_len 0) next ∙ (range_more_from 0 n ∙ ap (λ (m : ℕ). range_with_len 0 n ++ m ∷ []) same)

range_length_from : (a n : ℕ) → length (range_with_len a n) ≡ n
range_length_from a zero = refl
range_length_from a (suc n) = ap suc (range_length_from (a + 1) n)

pub range_length : (n : ℕ) → length (range_with_len 0 n) ≡ n
range_length n = range_length_from 0 n
