-- What stands between colons, one piece after the other.
use Rattle.std.proofs.Common.{◌≡◌, ℕ, suc, ◌+◌, ◌<◌, eqb, Bool, true, false, not, cond, List, [], ◌∷◌, length, Some, None, refl, ap, ◌∙◌, arith}
use Rattle.std.specs.Prelude.{◌&&◌, filter}
use Rattle.of_lines.specs.{Lines.prepended, Lines.before, Lines.behind, Reading.◌>>=◌}
use Rattle.of_ovs_words.specs.Ipv6.{pieces, with_piece, with_groups, group_count}

pub first_piece : (text : List ℕ) → 0 < length text → pieces text ≡ before 58 text ∷ pieces (behind 58 text)
unfolding pieces
first_piece [] h = absurd (omega arith)
first_piece (b ∷ []) h = by_test (eqb b 58) refl
  where
    by_test : (t : Bool) → eqb b 58 ≡ t → cond (eqb b 58) ([] ∷ []) ((b ∷ []) ∷ []) ≡ cond (eqb b 58) [] (b ∷ []) ∷ pieces (cond (eqb b 58) [] [])
    by_test true e = rw e refl
    by_test false e = rw e refl
first_piece (b ∷ c ∷ bs) h = by_test (first_piece (c ∷ bs) (omega arith)) (eqb b 58) refl
  where
    by_test : pieces (c ∷ bs) ≡ before 58 (c ∷ bs) ∷ pieces (behind 58 (c ∷ bs)) → (t : Bool) → eqb b 58 ≡ t → cond (eqb b 58) ([] ∷ pieces (c ∷ bs)) (prepended b (pieces (c ∷ bs))) ≡ cond (eqb b 58) [] (b ∷ before 58 (c ∷ bs)) ∷ pieces (cond (eqb b 58) (c ∷ bs) (behind 58 (c ∷ bs)))
    by_test others true e = rw e refl
    by_test others false e = rw e (ap (prepended b) others)

pub groups_next : (missing : ℕ) (wanted : Bool) (value : ℕ) (rest piece after : List ℕ) → 0 < length rest → piece ≡ before 58 rest → after ≡ behind 58 rest → with_groups missing wanted value (pieces rest) ≡ (with_piece missing wanted value piece >>= λ next. with_groups missing (wanted && not (eqb (length piece) 0)) next (pieces after))
groups_next missing wanted value rest piece after h p a = ap (with_groups missing wanted value) (first_piece rest h) ∙ rw (p, a) refl

pub groups_end : (missing : ℕ) (wanted : Bool) (value : ℕ) → with_groups missing wanted value (pieces []) ≡ cond wanted None (Some value)
unfolding pieces
groups_end missing wanted value = refl

pub count_end : group_count (pieces []) ≡ 0
unfolding pieces
count_end = refl

pub count_next : (rest piece after : List ℕ) → 0 < length rest → piece ≡ before 58 rest → after ≡ behind 58 rest → group_count (pieces rest) ≡ cond (not (eqb (length piece) 0)) (suc (group_count (pieces after))) (group_count (pieces after))
count_next rest piece after h p a = ap group_count (first_piece rest h) ∙ rw (p, a) (by_test (not (eqb (length (before 58 rest)) 0)) (before 58 rest) (filter (λ p. not (eqb (length p) 0)) (pieces (behind 58 rest))))
  where
    by_test : (t : Bool) (x : List ℕ) (xs : List (List ℕ)) → length (cond t (x ∷ xs) xs) ≡ cond t (suc (length xs)) (length xs)
    by_test true x xs = refl
    by_test false x xs = refl

pub groups_more : (missing : ℕ) (wanted : Bool) (value next : ℕ) (rest piece after : List ℕ) → 0 < length rest → piece ≡ before 58 rest → after ≡ behind 58 rest → Some next ≡ with_piece missing wanted value piece → with_groups missing wanted value (pieces rest) ≡ with_groups missing (wanted && not (eqb (length piece) 0)) next (pieces after)
groups_more missing wanted value next rest piece after h p a e = groups_next missing wanted value rest piece after h p a ∙ rw (← e) refl

pub groups_stop : (missing : ℕ) (wanted : Bool) (value : ℕ) (rest piece after : List ℕ) → 0 < length rest → piece ≡ before 58 rest → after ≡ behind 58 rest → None ≡ with_piece missing wanted value piece → with_groups missing wanted value (pieces rest) ≡ None
groups_stop missing wanted value rest piece after h p a e = groups_next missing wanted value rest piece after h p a ∙ rw (← e) refl

pub count_more : (rest piece after : List ℕ) (n : ℕ) → 0 < length rest → piece ≡ before 58 rest → after ≡ behind 58 rest → eqb (length piece) 0 ≡ false → n + group_count (pieces rest) ≡ (n + 1) + group_count (pieces after)
count_more rest piece after n h p a e = let next : group_count (pieces rest) ≡ suc (group_count (pieces after)) = count_next rest piece after h p a ∙ rw e refl in omega (arith, next)

pub count_same : (rest piece after : List ℕ) (n : ℕ) → 0 < length rest → piece ≡ before 58 rest → after ≡ behind 58 rest → eqb (length piece) 0 ≡ true → n + group_count (pieces rest) ≡ n + group_count (pieces after)
count_same rest piece after n h p a e = let next : group_count (pieces rest) ≡ group_count (pieces after) = count_next rest piece after h p a ∙ rw e refl in omega (arith, next)
