-- What passed, one after the other.
use Rattle.std.proofs.Common.{◌≡◌, ◌<◌, ◌+◌, ◌∙◌, ℕ, List, [], ◌∷◌, ◌++◌, length, take, get_or, Option, Some, None, ap, refl, sym, subst, append_assoc, add-one}
use Rattle.std.{specs.List.flat_map, proofs.lemmas.List.append-nil, proofs.lemmas.List.Concat.flat_map-append, proofs.Math.Seq.take-suc}
use Rattle.of_live.specs.Acts.{Act, Records}

pub records_none : (known : Option (List Act)) → Records known [] known
records_none None = refl
records_none (Some xs) = sym (append-nil xs)

pub records_more : (a b c : Option (List Act)) (xs ys : List Act) → Records a xs b → Records b ys c → Records a (xs ++ ys) c
records_more None b c xs ys p q = subst (λ k. Records k ys c) p q
records_more (Some before) None c xs ys p q = subst (λ (k : Option (List Act)). Records (Some before) (xs ++ ys) k) (sym q) tt
records_more (Some before) (Some middle) None xs ys p q = tt
records_more (Some before) (Some middle) (Some all) xs ys p q = q ∙ (ap (λ zs. zs ++ ys) p ∙ append_assoc before xs ys)

pub records_as : (a b : Option (List Act)) (xs ys : List Act) → xs ≡ ys → Records a xs b → Records a ys b
records_as a b xs ys e r = subst (λ zs. Records a zs b) e r

-- one more of those that a function gives
pub one_more : {X : Type 0} (f : X → List Act) (xs : List X) (i : ℕ) (x : X) → i < length xs → x ≡ get_or xs i x
    → flat_map f (take (i + 1) xs) ≡ flat_map f (take i xs) ++ f x
one_more f xs i x lt is =
    ap (λ n. flat_map f (take n xs)) (add-one i)
    ∙ (ap (flat_map f) (take-suc xs i x lt ∙ ap (λ y. take i xs ++ y ∷ []) (sym is))
    ∙ (flat_map-append f (take i xs) (x ∷ []) ∙ ap (λ ys. flat_map f (take i xs) ++ ys) (append-nil (f x))))
