-- How many different elements a list has.
use Rattle.std.proofs.Common.{◌≡◌, suc, ◌+◌, Bool, true, false, cond, not, ◌||◌, List, [], ◌∷◌, length, refl, sym, ◌∙◌, ap, subst, arith, inl, inr, ◌⊎◌, ⊎_elim}
use Rattle.std.specs.{List.Contains, List.list_any, List.filter, Bool.Decides}
use Rattle.of_mask_groups.{specs.Probing.different, proofs.Members.here, proofs.Members.there, proofs.Members.not_in_nil, proofs.Members.in_cons}

-- no two are the same
abbrev pub AreApart : {X : Type 0} → List X → Type 0
AreApart [] = Unit {0}
AreApart (x ∷ xs) = (Contains xs x → ⊥) × AreApart xs

-- ---- what passes a test

pub in_filter : {X : Type 0} (p : X → Bool) (xs : List X) (x : X) → Contains xs x → p x ≡ true → Contains (filter p xs) x
in_filter p [] x h t = absurd (not_in_nil x h)
in_filter {X} p (y ∷ ys) x h t = by_test (p y) refl (in_filter p ys x) (in_cons x y ys h)
  where
    by_test : (b : Bool) → p y ≡ b → (Contains ys x → p x ≡ true → Contains (filter p ys) x) → (y ≡ x) ⊎ Contains ys x → Contains (cond b (y ∷ filter p ys) (filter p ys)) x
    by_test true e later (inl s) = subst (λ w. Contains (y ∷ filter p ys) w) s (here y (filter p ys))
    by_test true e later (inr l) = there x y (filter p ys) (later l t)
    by_test false e later (inl s) = absurd (let f : true ≡ false = sym t ∙ ap p (sym s) ∙ e in cc)
    by_test false e later (inr l) = later l t

pub of_filter : {X : Type 0} (p : X → Bool) (xs : List X) (x : X) → Contains (filter p xs) x → Contains xs x × (p x ≡ true)
of_filter p [] x h = absurd (not_in_nil x h)
of_filter {X} p (y ∷ ys) x h = by_test (p y) refl (of_filter p ys x) h
  where
    by_test : (b : Bool) → p y ≡ b → (Contains (filter p ys) x → Contains ys x × (p x ≡ true)) → Contains (cond b (y ∷ filter p ys) (filter p ys)) x → Contains (y ∷ ys) x × (p x ≡ true)
    by_test true e later m = ⊎_elim (λ s. (subst (λ w. Contains (y ∷ ys) w) s (here y ys), ap p (sym s) ∙ e)) (λ l. (there x y ys (later l).0, (later l).1)) (in_cons x y (filter p ys) m)
    by_test false e later m = (there x y ys (later m).0, (later m).1)

-- ---- one element taken away

apart-filter : {X : Type 0} (p : X → Bool) (xs : List X) → AreApart xs → AreApart (filter p xs)
apart-filter p [] h = tt
apart-filter {X} p (x ∷ xs) h = by_test (p x) (apart-filter p xs h.1)
  where
    by_test : (b : Bool) → AreApart (filter p xs) → AreApart (cond b (x ∷ filter p xs) (filter p xs))
    by_test true later = (λ m. h.0 (of_filter p xs x m).0, later)
    by_test false later = later

all_pass : {X : Type 0} (p : X → Bool) (xs : List X) → ((x : X) → Contains xs x → p x ≡ true) → filter p xs ≡ xs
all_pass p [] h = refl
all_pass p (x ∷ xs) h = rw (h x (here x xs), all_pass p xs (λ y m. h y (there y x xs m))) refl

module _ {X : Type 0} (E : X → X → Bool) (decides : (a b : X) → Decides (E a b) (a ≡ b)) where
  abbrev others : X → List X → List X
  others x xs = filter (λ y. not (E x y)) xs

  is_other : (x y : X) → (x ≡ y → ⊥) → not (E x y) ≡ true
  is_other x y ne = by_test (E x y) refl
    where
      by_test : (b : Bool) → E x y ≡ b → not b ≡ true
      by_test true e = absurd (ne ((decides x y).0 e))
      by_test false e = refl

  not_other : (x y : X) → not (E x y) ≡ true → x ≡ y → ⊥
  not_other x y h s = let t : E x y ≡ true = (decides x y).1 s in let f : false ≡ true = ap not (sym t) ∙ h in cc

  one_less : (D : List X) (x : X) → AreApart D → Contains D x → length D ≡ suc (length (others x D))
  one_less [] x h m = absurd (not_in_nil x m)
  one_less (y ∷ ys) x h m = by_test (E x y) refl (one_less ys x h.1) (in_cons x y ys m)
    where
      by_test : (b : Bool) → E x y ≡ b → (Contains ys x → length ys ≡ suc (length (others x ys))) → (y ≡ x) ⊎ Contains ys x → suc (length ys) ≡ suc (length (cond (not b) (y ∷ others x ys) (others x ys)))
      by_test true e later c =
          let s : x ≡ y = (decides x y).0 e in
          ap (λ (zs : List X). suc (length zs)) (sym (all_pass (λ z. not (E x z)) ys (λ z l. is_other x z (λ t. h.0 (subst (λ w. Contains ys w) (sym t ∙ s) l)))))
      by_test false e later (inl s) = absurd (let t : E x y ≡ true = (decides x y).1 (sym s) in let f : true ≡ false = sym t ∙ e in cc)
      by_test false e later (inr l) = ap suc (later l)

  is_any : (x : X) (xs : List X) → list_any (E x) xs ≡ true → Contains xs x
  is_any x [] h = absurd cc
  is_any x (y ∷ ys) h = by_test (E x y) refl (is_any x ys) h
    where
      by_test : (b : Bool) → E x y ≡ b → (list_any (E x) ys ≡ true → Contains ys x) → (b || list_any (E x) ys) ≡ true → Contains (y ∷ ys) x
      by_test true e later h = subst (λ w. Contains (y ∷ ys) w) (sym ((decides x y).0 e)) (here y ys)
      by_test false e later h = there x y ys (later h)

  is_not_any : (x : X) (xs : List X) → list_any (E x) xs ≡ false → Contains xs x → ⊥
  is_not_any x [] h m = not_in_nil x m
  is_not_any x (y ∷ ys) h m = by_test (E x y) refl (is_not_any x ys) h (in_cons x y ys m)
    where
      by_test : (b : Bool) → E x y ≡ b → (list_any (E x) ys ≡ false → Contains ys x → ⊥) → (b || list_any (E x) ys) ≡ false → (y ≡ x) ⊎ Contains ys x → ⊥
      by_test true e later h c = let f : true ≡ false = h in cc
      by_test false e later h (inl s) = let t : E x y ≡ true = (decides x y).1 (sym s) in let f : true ≡ false = sym t ∙ e in cc
      by_test false e later h (inr l) = later h l

  -- a list without repeats of the same elements has as many as there are different ones
  pub as_many : (D L : List X) → AreApart D → ((x : X) → Contains D x → Contains L x) → ((x : X) → Contains L x → Contains D x) → length D ≡ different E L
  as_many [] [] h f b = refl
  as_many (d ∷ D) [] h f b = absurd (not_in_nil d (f d (here d D)))
  as_many D (x ∷ xs) h f b =
      by_test (list_any (E x) xs) refl
      (λ m. as_many D xs h (λ y c. ⊎_elim (λ s. subst (λ w. Contains xs w) s m) (λ l. l) (in_cons y x xs (f y c))) (λ y c. b y (there y x xs c)))
      (λ n. as_many (others x D) xs (apart-filter (λ y. not (E x y)) D h)
      (λ y c. let o = of_filter (λ z. not (E x z)) D y c in ⊎_elim (λ s. absurd (not_other x y o.1 s)) (λ l. l) (in_cons y x xs (f y o.0)))
      (λ y c. in_filter (λ z. not (E x z)) D y (b y (there y x xs c)) (is_other x y (λ s. n (subst (λ w. Contains xs w) (sym s) c)))))
    where
      by_test : (v : Bool) → list_any (E x) xs ≡ v → (Contains xs x → length D ≡ different E xs) → ((Contains xs x → ⊥) → length (others x D) ≡ different E xs) → length D ≡ cond v 0 1 + different E xs
      by_test true e same less = omega (arith, same (is_any x xs e))
      by_test false e same less = omega (arith, less (is_not_any x xs e), one_less D x h (b x (here x xs)))
