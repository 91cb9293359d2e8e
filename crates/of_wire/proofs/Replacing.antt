-- Zeros, and two bytes that are replaced.
use Rattle.std.proofs.Common.{◌≡◌, ℕ, ◌+◌, ◌≤◌, List, ◌∷◌, ◌++◌, length, take, drop, replicate, ap, ◌∙◌}
use Rattle.std.proofs.{Math.Seq.take-append_seam, Math.Seq.drop-append-add, lemmas.List.take-replicate}

pub front_zeros : (n : ℕ) → n ≤ 8 → take {A = ℕ} n (replicate 8 0) ≡ replicate n 0
front_zeros n h = take-replicate n 8 0 h

-- two bytes behind others are replaced
behind : (before after b : List ℕ) (x y : ℕ) → let bytes = before ++ x ∷ y ∷ after in take (length before) bytes ++ (b ++ drop (length before + 2) bytes) ≡ before ++ (b ++ after)
behind before after b x y =
    ap (λ (l : List ℕ). l ++ (b ++ drop (length before + 2) (before ++ x ∷ y ∷ after))) (take-append_seam before (x ∷ y ∷ after))
    ∙ ap (λ (l : List ℕ). before ++ (b ++ l)) (drop-append-add before (x ∷ y ∷ after) 2)

pub replaced_behind : (before after b bytes : List ℕ) (x y at : ℕ) → bytes ≡ before ++ x ∷ y ∷ after → at ≡ length before → take at bytes ++ (b ++ drop (at + 2) bytes) ≡ before ++ (b ++ after)
replaced_behind before after b bytes x y at e n = rw (e, n) (behind before after b x y)
