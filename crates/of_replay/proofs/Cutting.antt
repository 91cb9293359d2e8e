-- Bytes cut into lines, and what is kept of a line.
use Rattle.std.proofs.Common.{◌≡◌, ℕ, ◌+◌, ◌-◌, ◌<◌, ◌≤◌, suc, zero, eqb, Bool, true, false, cond, length, take, drop, List, [], ◌∷◌, ◌++◌, Option, Some, None, refl, sym, ◌∙◌, ap, subst, append_assoc, add-one, arith}
use Rattle.std.{specs.Prelude.position, specs.Prelude.nat_lt, specs.List.position_or_len, specs.Option.option_map, proofs.lemmas.List.append-nil, proofs.lemmas.Bool.Decides.nat_tests}
use Rattle.of_replay.specs.Lexing.{whole_from, last_from}

-- THE KEPT PART OF A LINE

pub kept_more : (n : ℕ) (a b : List ℕ) → take n (take n a ++ b) ≡ take n (a ++ b)
kept_more zero a b = refl
kept_more (suc n) [] b = refl
kept_more (suc n) (x ∷ a) b = ap (λ (xs : List ℕ). x ∷ xs) (kept_more n a b)

-- LINES OF BYTES

-- the place of the first LF
abbrev pub is_lf : ℕ → Bool
is_lf b = eqb b 10

abbrev pub first_end : List ℕ → Option ℕ
first_end bytes = position is_lf bytes

end_here : (b : ℕ) (bs : List ℕ) → is_lf b ≡ true → first_end (b ∷ bs) ≡ Some 0
end_here b bs e =
    let test : nat_lt 0 (suc (length bs)) ≡ true = grind (arith, nat_tests) in
    rw (e, test) refl

end_later : (b : ℕ) (bs : List ℕ) → is_lf b ≡ false → first_end (b ∷ bs) ≡ option_map (λ n. n + 1) (first_end bs)
end_later b bs e = rw e (by_test (nat_lt (position_or_len is_lf bs) (length bs)) refl)
  where
    by_test : (t : Bool) → nat_lt (position_or_len is_lf bs) (length bs) ≡ t → cond (nat_lt (1 + position_or_len is_lf bs) (suc (length bs))) (Some (1 + position_or_len is_lf bs)) None ≡ option_map (λ n. n + 1) (cond t (Some (position_or_len is_lf bs)) None)
    by_test true f =
        let test : nat_lt (1 + position_or_len is_lf bs) (suc (length bs)) ≡ true = grind (arith, nat_tests) in
        rw test (ap Some (omega arith))
    by_test false f =
        let test : nat_lt (1 + position_or_len is_lf bs) (suc (length bs)) ≡ false = grind (arith, nat_tests) in
        rw test refl

-- what the place of the first LF says of lines
abbrev pub Parts : List ℕ → List ℕ → Option ℕ → Type 0
Parts line bytes None = (whole_from line bytes ≡ []) × (last_from line bytes ≡ line ++ bytes)
Parts line bytes (Some k) = (k < length bytes)
    × (whole_from line bytes ≡ (line ++ take k bytes) ∷ whole_from [] (drop (suc k) bytes))
    × (last_from line bytes ≡ last_from [] (drop (suc k) bytes))

parts_more : (line : List ℕ) (b : ℕ) (bs : List ℕ) (o : Option ℕ) → is_lf b ≡ false → Parts (line ++ b ∷ []) bs o → Parts line (b ∷ bs) (option_map (λ n. n + 1) o)
parts_more line b bs None e h = rw e (h.0, h.1 ∙ append_assoc line (b ∷ []) bs)
parts_more line b bs (Some k) e h = (
  omega (arith, h.0, add-one k),
  rw (e, add-one k) (h.1 ∙ ap (λ (x : List ℕ). x ∷ whole_from [] (drop (suc k) bs)) (append_assoc line (b ∷ []) (take k bs))),
  rw (e, add-one k) h.2,
)

parts_by : (line : List ℕ) (b : ℕ) (bs : List ℕ) (t : Bool) → is_lf b ≡ t → ((more : List ℕ) → Parts more bs (first_end bs)) → Parts line (b ∷ bs) (first_end (b ∷ bs))
parts_by line b bs true e ih =
    subst (Parts line (b ∷ bs)) (sym (end_here b bs e)) (omega arith, rw e (ap (λ (x : List ℕ). x ∷ whole_from [] bs) (sym (append-nil line))), rw e refl)
parts_by line b bs false e ih =
    subst (Parts line (b ∷ bs)) (sym (end_later b bs e)) (parts_more line b bs (first_end bs) e (ih (line ++ b ∷ [])))

pub parts : (line bytes : List ℕ) → Parts line bytes (first_end bytes)
parts line [] = (refl, sym (append-nil line))
parts line (b ∷ bs) = parts_by line b bs (is_lf b) refl (λ more. parts more bs)

-- more bytes after bytes
whole_by : (line : List ℕ) (x : ℕ) (a b : List ℕ) (t : Bool) → is_lf x ≡ t → ((more : List ℕ) → whole_from more (a ++ b) ≡ whole_from more a ++ whole_from (last_from more a) b)
    → whole_from line ((x ∷ a) ++ b) ≡ whole_from line (x ∷ a) ++ whole_from (last_from line (x ∷ a)) b
whole_by line x a b true e ih = rw e (ap (λ (ls : List (List ℕ)). line ∷ ls) (ih []))
whole_by line x a b false e ih = rw e (ih (line ++ x ∷ []))

pub whole_join : (line a b : List ℕ) → whole_from line (a ++ b) ≡ whole_from line a ++ whole_from (last_from line a) b
whole_join line [] b = refl
whole_join line (x ∷ a) b = whole_by line x a b (is_lf x) refl (λ more. whole_join more a b)

last_by : (line : List ℕ) (x : ℕ) (a b : List ℕ) (t : Bool) → is_lf x ≡ t → ((more : List ℕ) → last_from more (a ++ b) ≡ last_from (last_from more a) b)
    → last_from line ((x ∷ a) ++ b) ≡ last_from (last_from line (x ∷ a)) b
last_by line x a b true e ih = rw e (ih [])
last_by line x a b false e ih = rw e (ih (line ++ x ∷ []))

pub last_join : (line a b : List ℕ) → last_from line (a ++ b) ≡ last_from (last_from line a) b
last_join line [] b = refl
last_join line (x ∷ a) b = last_by line x a b (is_lf x) refl (λ more. last_join more a b)

-- what fits
pub kept_part : (n : ℕ) (a b : List ℕ) → length a ≤ n → a ++ take (n - length a) b ≡ take n (a ++ b)
kept_part n [] b le = ap (λ (k : ℕ). take k b) (omega arith)
kept_part zero (x ∷ a) b le = absurd (omega (arith, le))
kept_part (suc n) (x ∷ a) b le =
    let room : suc n - length (x ∷ a) ≡ n - length a = omega arith in
    rw room (ap (λ (xs : List ℕ). x ∷ xs) (kept_part n a b (omega (arith, le))))
