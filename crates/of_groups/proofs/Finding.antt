-- Groups by number: by their places.
use Rattle.std.proofs.Common.{◌≡◌, ℕ, suc, Bool, true, false, cond, ltb, List, [], ◌∷◌, length, get_or, Option, Some, None, refl, sym, ap, ◌∙◌, arith}
use Rattle.std.{specs.Prelude.◌||◌, specs.Prelude.find, specs.Prelude.position, specs.List.list_any, specs.List.position_or_len, specs.Option.is_some, proofs.lemmas.Bool.Decides.nat_tests}

shifted : (n m : ℕ) (a b : Option ℕ) → cond (ltb (suc n) (suc m)) a b ≡ cond (ltb n m) a b
shifted n m a b = let same : ltb (suc n) (suc m) ≡ ltb n m = grind (arith, nat_tests) in rw same refl

pub place_later : {X : Type 0} (p : X → Bool) (x : X) (xs : List X) → p x ≡ false → position_or_len p (x ∷ xs) ≡ suc (position_or_len p xs)
place_later p x xs e = rw e (omega arith)

-- the place in a longer list
pub position_first : {X : Type 0} (p : X → Bool) (x : X) (xs : List X) → p x ≡ true → position p (x ∷ xs) ≡ Some 0
position_first p x xs e = let some : ltb 0 (suc (length xs)) ≡ true = grind (arith, nat_tests) in rw (e, some) refl

pub position_later : {X : Type 0} (p : X → Bool) (x : X) (xs : List X) → p x ≡ false → position p (x ∷ xs) ≡ cond (ltb (position_or_len p xs) (length xs)) (Some (suc (position_or_len p xs))) None
position_later p x xs e =
    ap (λ (n : ℕ). cond (ltb n (length (x ∷ xs))) (Some n) None) (place_later p x xs e)
    ∙ shifted (position_or_len p xs) (length xs) (Some (suc (position_or_len p xs))) None

one_later : (b : Bool) (n : ℕ) → is_some (cond b (Some (suc n)) None) ≡ is_some (cond b (Some n) None)
one_later true n = refl
one_later false n = refl

-- some element passes where there is a first one
pub any_position : {X : Type 0} (p : X → Bool) (xs : List X) → list_any p xs ≡ is_some (position p xs)
any_position p [] = refl
any_position {X} p (x ∷ xs) = by_test (p x) refl (any_position p xs)
  where
    by_test : (b : Bool) → p x ≡ b → list_any p xs ≡ is_some (position p xs) → (b || list_any p xs) ≡ is_some (position p (x ∷ xs))
    by_test true e ih = sym (ap is_some (position_first p x xs e))
    by_test false e ih = ih ∙ sym (ap is_some (position_later p x xs e) ∙ one_later (ltb (position_or_len p xs) (length xs)) (position_or_len p xs))

shifted_found : {X : Type 0} (n m : ℕ) (x : X) → cond (ltb (suc n) (suc m)) (Some x) None ≡ cond (ltb n m) (Some x) None
shifted_found n m x = let same : ltb (suc n) (suc m) ≡ ltb n m = grind (arith, nat_tests) in rw same refl

-- the element at the first place
pub found_at : {X : Type 0} (p : X → Bool) (xs : List X) (d : X) → find p xs ≡ cond (ltb (position_or_len p xs) (length xs)) (Some (get_or xs (position_or_len p xs) d)) None
found_at p [] d = refl
found_at {X} p (x ∷ xs) d = by_test (p x) refl (found_at p xs d)
  where
    by_test : (b : Bool) → p x ≡ b → find p xs ≡ cond (ltb (position_or_len p xs) (length xs)) (Some (get_or xs (position_or_len p xs) d)) None
        → cond b (Some x) (find p xs) ≡ cond (ltb (position_or_len p (x ∷ xs)) (length (x ∷ xs))) (Some (get_or (x ∷ xs) (position_or_len p (x ∷ xs)) d)) None
    by_test true e ih = let some : ltb 0 (suc (length xs)) ≡ true = grind (arith, nat_tests) in rw (e, some) refl
    by_test false e ih =
        ih
        ∙ (sym (shifted_found (position_or_len p xs) (length xs) (get_or xs (position_or_len p xs) d))
        ∙ sym (ap (λ (n : ℕ). cond (ltb n (length (x ∷ xs))) (Some (get_or (x ∷ xs) n d)) None) (place_later p x xs e)))

at_some : {X : Type 0} (b : Bool) (n i : ℕ) (f : ℕ → X) → cond b (Some n) None ≡ Some i → cond b (Some (f n)) None ≡ Some (f i)
at_some true n i f e = let same : n ≡ i = cc in rw same refl
at_some false n i f e = absurd (cc)

pub found_some : {X : Type 0} (p : X → Bool) (xs : List X) (i : ℕ) (d : X) → position p xs ≡ Some i → find p xs ≡ Some (get_or xs i d)
found_some p xs i d e = found_at p xs d ∙ at_some (ltb (position_or_len p xs) (length xs)) (position_or_len p xs) i (λ n. get_or xs n d) e

at_none : {X : Type 0} (b : Bool) (n : ℕ) (x : X) → cond b (Some n) None ≡ None → cond b (Some x) None ≡ None
at_none true n x e = absurd (cc)
at_none false n x e = refl

pub found_none : {X : Type 0} (p : X → Bool) (xs : List X) → position p xs ≡ None → find p xs ≡ None
found_none p [] e = refl
found_none p (x ∷ xs) e = found_at p (x ∷ xs) x ∙ at_none (ltb (position_or_len p (x ∷ xs)) (length (x ∷ xs))) (position_or_len p (x ∷ xs)) (get_or (x ∷ xs) (position_or_len p (x ∷ xs)) x) e
