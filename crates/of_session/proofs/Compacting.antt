-- A list whose first elements were taken.
use Rattle.std.proofs.Common.{◌≡◌, ℕ, ◌+◌, ◌-◌, ◌*◌, ◌≤◌, List, ◌++◌, length, take, drop, sym, ◌∙◌, ap, arith}
use Rattle.std.{specs.List.copy_within, proofs.lemmas.List.take_all, proofs.lemmas.List.drop-drop, proofs.lemmas.List.length-drop, proofs.lemmas.List.drop-append-le}
use Rattle.std.proofs.lemmas.List.Edits.{take-paste}

pub drop_append : (n : ℕ) (xs ys : List ℕ) → 2 * n ≤ length xs → drop n (xs ++ ys) ≡ drop n xs ++ ys
drop_append n xs ys h = drop-append-le n xs ys (omega (arith, h))

-- what was moved to the start
pub moved : (n : ℕ) (xs : List ℕ) → n ≤ length xs → take (length xs - n) (copy_within xs n (length xs) 0) ≡ drop n xs
moved n xs h =
    let left = length xs - n in
    let from_start : left ≡ 0 + left = omega arith in
    ap (λ (k : ℕ). take k (copy_within xs n (length xs) 0)) from_start
    ∙ (take-paste xs 0 (drop n xs) left (omega arith) (omega (arith, length-drop n xs))
    ∙ take_all left (drop n xs) (omega (arith, length-drop n xs)))

pub drop_more : (n m : ℕ) (xs : List ℕ) → drop (n + m) xs ≡ drop m (drop n xs)
drop_more n m xs = sym (drop-drop m n xs)
