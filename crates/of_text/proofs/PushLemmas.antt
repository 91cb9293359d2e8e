-- One element more of a loop that writes what each gives.
use Rattle.std.proofs.Common.{◌≡◌, ℕ, ◌+◌, ◌<◌, ◌≤◌, Bool, true, List, [], ◌∷◌, ◌++◌, length, take, drop, get_or, sym, ap, subst, ◌∙◌, append_assoc}
use Rattle.std.proofs.lemmas.List.{append-nil, at_drop_all, map_more, drop_more, flat_map_more}
use Rattle.std.{specs.Prelude.map, specs.List.flat_map, specs.List.AllByRecursion, specs.List.list_all, proofs.lemmas.Bool.and_parts}

-- by one row for each
pub pushed : {X Y : Type 0} (f : X → Y) (start had new : List Y) (xs : List X) (i : ℕ) (d : X) → i < length xs → had ≡ start ++ map f (take i xs) → new ≡ had ++ f (get_or xs i d) ∷ [] →
    new ≡ start ++ map f (take (i + 1) xs)
pushed f start had new xs i d l h e =
    e ∙ ap (λ ys. ys ++ f (get_or xs i d) ∷ []) h ∙ append_assoc start (map f (take i xs)) (f (get_or xs i d) ∷ []) ∙ sym (ap (λ ys. start ++ ys) (map_more f xs i d l))

-- by some rows for each
pub appended : {X V Y : Type 0} (g : V → List Y) (f : X → V) (start had new : List Y) (xs : List X) (i : ℕ) (x : X) → i < length xs → x ≡ get_or xs i x →
    had ≡ start ++ flat_map g (map f (take i xs)) → new ≡ had ++ g (f x) → new ≡ start ++ flat_map g (map f (take (i + 1) xs))
appended g f start had new xs i x l is h e =
    e ∙ ap (λ ys. ys ++ g (f x)) h ∙ flat_map_more g start (map f (take i xs)) (f x) ∙ sym (ap (λ vs. start ++ flat_map g vs) (map_more f xs i x l ∙ ap (λ y. map f (take i xs) ++ f y ∷ []) (sym is)))

-- the rows that are left to write
pub row_fits : {X : Type 0} (P : X → Type 0) (xs : List X) (i : ℕ) (d : X) → i < length xs → AllByRecursion P (drop i xs) → AllByRecursion P (drop (i + 1) xs)
row_fits P xs i d l h = (subst (λ ys. AllByRecursion P ys) (drop_more xs i d l) h).1

pub row_written : {X Y : Type 0} (g : X → List Y) (had new all : List Y) (xs : List X) (i : ℕ) (d : X) → i < length xs → had ++ flat_map g (drop i xs) ≡ all → new ≡ had ++ g (get_or xs i d) →
    new ++ flat_map g (drop (i + 1) xs) ≡ all
row_written g had new all xs i d l h e =
    ap (λ ys. ys ++ flat_map g (drop (i + 1) xs)) e ∙ append_assoc had (g (get_or xs i d)) (flat_map g (drop (i + 1) xs)) ∙ sym (ap (λ ys. had ++ flat_map g ys) (drop_more xs i d l)) ∙ h

-- after the last
pub all_written : {X Y : Type 0} (F : List X → List Y) (had all : List Y) (xs : List X) (i : ℕ) → length xs ≤ i → F [] ≡ [] → had ++ F (drop i xs) ≡ all → had ≡ all
all_written F had all xs i l n h = sym (append-nil had) ∙ sym (ap (λ ys. had ++ ys) (at_drop_all F xs i l ∙ n)) ∙ h

-- one made of each
pub made_next : {X Y : Type 0} (f : X → Y) (had new all : List Y) (xs : List X) (i : ℕ) (x : X) (y : Y) → i < length xs → x ≡ get_or xs i x → y ≡ f x → had ++ map f (drop i xs) ≡ all → new ≡ had ++ y ∷ [] →
    new ++ map f (drop (i + 1) xs) ≡ all
made_next f had new all xs i x y l is made h e =
    ap (λ ys. ys ++ map f (drop (i + 1) xs)) e ∙ append_assoc had (y ∷ []) (map f (drop (i + 1) xs)) ∙ ap (λ z. had ++ z ∷ map f (drop (i + 1) xs)) (made ∙ ap f is) ∙ sym (ap (λ ys. had ++ map f ys) (drop_more xs i x l)) ∙ h

pub others_pass : {X V : Type 0} (p : V → Bool) (f : X → V) (xs : List X) (i : ℕ) (d : X) → i < length xs → list_all p (map f (drop i xs)) ≡ true → list_all p (map f (drop (i + 1) xs)) ≡ true
others_pass p f xs i d l h = (and_parts (p (f (get_or xs i d))) (list_all p (map f (drop (i + 1) xs))) (sym (ap (λ ys. list_all p (map f ys)) (drop_more xs i d l)) ∙ h)).1
