-- Items that bytes are, are what reading them as a function gives.
use Rattle.std.proofs.Common.{◌≡◌, ℕ, zero, suc, ◌≤◌, List, [], ◌∷◌, ◌++◌, length, drop, Option, Some, None, Ok, refl, sym, ap, ◌∙◌, arith}
use Rattle.std.{specs.Prelude.IsSome, proofs.lemmas.List.append_assoc, proofs.lemmas.List.append-nil, proofs.lemmas.List.length-drop}
use Rattle.of_wire.specs.Items.{Items, AreItems, item_then, items_from, outcome, TakesBytes}
use Rattle.of_wire.specs.{declared.code.Code.Code, Refusals.first_of}

no_more : {V : Type 0} (kind : Items V) (n : ℕ) (seen : List V) → items_from kind n seen [] ≡ Ok seen
unfolding items_from
no_more kind zero seen = refl
no_more kind (suc n) seen = refl

refused_here : {V : Type 0} (kind : Items V) (n : ℕ) (seen : List V) (b : ℕ) (bs : List ℕ) (fault : Option Code) → first_of (kind.refusals seen (b ∷ bs)) ≡ fault → IsSome fault → items_from kind (suc n) seen (b ∷ bs) ≡ outcome (seen ++ []) fault
unfolding items_from
refused_here kind n seen b bs None e some = absurd cc
refused_here kind n seen b bs (Some code) e some = ap (λ (o : Option Code). item_then kind (items_from kind n) seen (b ∷ bs) o (kind.value_at (b ∷ bs))) e

next_here : {V : Type 0} (kind : Items V) (n : ℕ) (seen : List V) (b : ℕ) (bs : List ℕ) (v : V) → first_of (kind.refusals seen (b ∷ bs)) ≡ None → kind.value_at (b ∷ bs) ≡ Some v → items_from kind (suc n) seen (b ∷ bs) ≡ items_from kind n (seen ++ v ∷ []) (drop (kind.size_at (b ∷ bs)) (b ∷ bs))
unfolding items_from
next_here {V} kind n seen b bs v none value =
    ap (λ (o : Option Code). item_then kind (items_from kind n) seen (b ∷ bs) o (kind.value_at (b ∷ bs))) none
    ∙ ap (λ (o : Option V). item_then kind (items_from kind n) seen (b ∷ bs) None o) value

pub items_are : {V : Type 0} (kind : Items V) (n : ℕ) (seen : List V) (bytes : List ℕ) (vs : List V) (fault : Option Code) → TakesBytes kind → length bytes ≤ n → AreItems kind seen bytes vs fault → items_from kind n seen bytes ≡ outcome (seen ++ vs) fault
items_are kind n seen [] [] fault moves enough h = no_more kind n seen ∙ (ap Ok (sym (append-nil seen)) ∙ ap (outcome (seen ++ [])) (sym h))
items_are kind zero seen (b ∷ bs) [] fault moves enough h = absurd (omega (arith, enough))
items_are kind (suc n) seen (b ∷ bs) [] fault moves enough h = refused_here kind n seen b bs fault h.0 h.1
items_are kind n seen [] (v ∷ vs) fault moves enough h = absurd (omega (arith, h.0))
items_are kind zero seen (b ∷ bs) (v ∷ vs) fault moves enough h = absurd (omega (arith, enough))
items_are {V} kind (suc n) seen (b ∷ bs) (v ∷ vs) fault moves enough h =
    let some = moves seen (b ∷ bs) h.0 h.1 in
    let left : length (drop (kind.size_at (b ∷ bs)) (b ∷ bs)) ≤ n = omega (arith, length-drop (kind.size_at (b ∷ bs)) (b ∷ bs), some, enough) in
    next_here kind n seen b bs v h.1 h.2
    ∙ (items_are kind n (seen ++ v ∷ []) (drop (kind.size_at (b ∷ bs)) (b ∷ bs)) vs fault moves left h.3
    ∙ ap (λ (x : List V). outcome x fault) (append_assoc seen (v ∷ []) vs))
