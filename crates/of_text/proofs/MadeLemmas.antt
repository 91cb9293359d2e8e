-- Lists that are made element by element, and the bounds of their lines.
use Rattle.std.proofs.Common.{◌≡◌, ℕ, zero, suc, ◌+◌, ◌<◌, Bool, true, List, [], ◌∷◌, ◌++◌, length, drop, get_or, refl, sym, ◌∙◌, ap, append_assoc, add-one, drop-cons, arith}
use Rattle.std.{specs.Prelude.map, specs.Prelude.nat_le, specs.List.AllByRecursion, specs.List.flat_map, specs.List.list_all, proofs.lemmas.Bool.and_parts, proofs.lemmas.List.map-append}
use Rattle.of_groups.specs.{declared.bucket.Bucket.Bucket, Buckets.are_fit, Buckets.is_fit}
use Rattle.of_lines.specs.{declared.row.Row.Row, Rows.Fits}
use Rattle.of_text.proofs.TextLemmas.{all_front, all_back, all_both}

-- one more element, which is seen as the next one is
pub mapped_more : {X Y Z : Type 0} (f : X → Z) (g : Y → Z) (ys : List Y) (i : ℕ) (d : Y) (x : X) (old new : List X) (all : List Z) → i < length ys → d ≡ get_or ys i d → f x ≡ g d → new ≡ old ++ x ∷ []
    → map f old ++ map g (drop i ys) ≡ all → map f new ++ map g (drop (i + 1) ys) ≡ all
mapped_more {X} {Y} {Z} f g ys i d x old new all lt is e n h =
    let rest : List Z = map g (drop (i + 1) ys) in
    let parts : drop i ys ≡ get_or ys i d ∷ drop (i + 1) ys = rw (add-one, drop-cons ys i d) refl in
    let here : drop i ys ≡ d ∷ drop (i + 1) ys = parts ∙ ap (λ (y : Y). y ∷ drop (i + 1) ys) (sym is) in
    ap (λ (xs : List X). map f xs ++ rest) n
    ∙ (ap (λ (zs : List Z). zs ++ rest) (map-append f old (x ∷ []))
    ∙ (append_assoc (map f old) (f x ∷ []) rest
    ∙ (ap (λ (z : Z). map f old ++ z ∷ rest) e
    ∙ (ap (λ (zs : List Y). map f old ++ map g zs) (sym here) ∙ h))))

-- one more element, which is seen as the next one
pub seen_more : {X Y : Type 0} (f : X → Y) (ys : List Y) (i : ℕ) (d : Y) (x : X) (old new : List X) → i < length ys → d ≡ get_or ys i d → f x ≡ d → new ≡ old ++ x ∷ [] → map f old ++ drop i ys ≡ ys → map f new ++ drop (i + 1) ys ≡ ys
seen_more {X} {Y} f ys i d x old new lt is e n h =
    let rest : List Y = drop (i + 1) ys in
    let parts : drop i ys ≡ get_or ys i d ∷ rest = rw (add-one, drop-cons ys i d) refl in
    let here : drop i ys ≡ d ∷ rest = parts ∙ ap (λ (y : Y). y ∷ rest) (sym is) in
    ap (λ (xs : List X). map f xs ++ rest) n
    ∙ (ap (λ (zs : List Y). zs ++ rest) (map-append f old (x ∷ []))
    ∙ (append_assoc (map f old) (f x ∷ []) rest
    ∙ (ap (λ (z : Y). map f old ++ z ∷ rest) e
    ∙ (ap (λ (zs : List Y). map f old ++ zs) (sym here) ∙ h))))

-- and whose lines are within their bounds
pub fits_more : {X Y : Type 0} (see : X → Y) (rows : Y → List Row) (old new : List X) (x : X) → new ≡ old ++ x ∷ [] → AllByRecursion Fits (rows (see x)) → AllByRecursion Fits (flat_map rows (map see old)) → AllByRecursion Fits (flat_map rows (map see new))
fits_more {X} see rows old new x n one h = rw n (by_list old h)
  where
    by_list : (xs : List X) → AllByRecursion Fits (flat_map rows (map see xs)) → AllByRecursion Fits (flat_map rows (map see (xs ++ x ∷ [])))
    by_list [] k = all_both Fits (rows (see x)) [] one tt
    by_list (y ∷ ys) k =
        let rest : List Row = flat_map rows (map see ys) in
        all_both Fits (rows (see y)) (flat_map rows (map see (ys ++ x ∷ []))) (all_front Fits (rows (see y)) rest k) (by_list ys (all_back Fits (rows (see y)) rest k))

all_at : {X : Type 0} (p : X → Bool) (xs : List X) (i : ℕ) (d : X) → i < length xs → list_all p xs ≡ true → p (get_or xs i d) ≡ true
all_at p [] i d l h = absurd (omega (arith, l))
all_at p (x ∷ xs) zero d l h = (and_parts (p x) (list_all p xs) h).0
all_at p (x ∷ xs) (suc i) d l h = all_at p xs i d (omega (arith, l)) (and_parts (p x) (list_all p xs) h).1

pub bucket_served : (bs : List Bucket) (i : ℕ) (d : Bucket) → i < length bs → d ≡ get_or bs i d → are_fit bs ≡ true → is_fit d ≡ true
bucket_served bs i d l is h = rw is (all_at is_fit bs i d l (and_parts (nat_le (length bs) 16) (list_all is_fit bs) h).1)
