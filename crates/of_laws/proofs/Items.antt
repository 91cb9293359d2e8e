-- A walk over items that was computed is a walk.
use Rattle.std.proofs.Common.{◌≡◌, ◌<◌, ◌≤◌, ℕ, zero, suc, true, false, List, [], ◌∷◌, ◌++◌, length, drop, Option, Some, None, Result, Ok, refl, sym, subst, ◌∙◌, arith}
use Rattle.std.{specs.Prelude.IsSome, proofs.lemmas.List.append_assoc, proofs.lemmas.List.append-nil, proofs.lemmas.List.length-drop}
use Rattle.of_wire.specs.Items.{Items, AreItems, TakesBytes, item_then, items_from}
use Rattle.of_wire.specs.{declared.code.Code.Code, Refusals.first_of}

-- an item that is not refused stands for a value
abbrev pub HasValues : {V : Type 0} → Items V → Type 0
HasValues {V} kind = (seen : List V) (bytes : List ℕ) → 0 < length bytes → first_of (kind.refusals seen bytes) ≡ None → IsSome (kind.value_at bytes)

-- the rest of the values, after those that come before
record Found {V : Type 0} (kind : Items V) (seen : List V) (bytes : List ℕ) (all : List V) : Type 0 where
  more : List V
  are : AreItems kind seen bytes more None
  whole : all ≡ seen ++ more

none_more : {V : Type 0} (kind : Items V) (seen all : List V) → ◌≡◌ {A = Result (List V) Code} (Ok seen) (Ok all) → Found kind seen [] all
none_more {V} kind seen all e = let same : seen ≡ all = cc in record { more = []; are = refl; whole = sym same ∙ sym (append-nil seen) }

no_value : {V : Type 0} (o : Option V) → IsSome o → o ≡ None → ⊥
no_value (Some v) some e = cc
no_value None some e = let h : false ≡ true = some in cc

items_found : {V : Type 0} (kind : Items V) (n : ℕ) (seen : List V) (bytes : List ℕ) (all : List V) → TakesBytes kind → HasValues kind → length bytes ≤ n → items_from kind n seen bytes ≡ Ok all → Found kind seen bytes all
unfolding items_from
items_found kind zero seen [] all takes has room h = none_more kind seen all h
items_found kind zero seen (b ∷ bs) all takes has room h = absurd (omega arith)
items_found kind (suc n) seen [] all takes has room h = none_more kind seen all h
items_found {V} kind (suc n) seen (b ∷ bs) all takes has room h =
    by_first (first_of (kind.refusals seen (b ∷ bs))) refl (kind.value_at (b ∷ bs)) refl h (λ v size. items_found kind n (seen ++ v ∷ []) (drop (kind.size_at (b ∷ bs)) (b ∷ bs)) all takes has (omega (arith, size, length-drop (kind.size_at (b ∷ bs)) (b ∷ bs))))
  where
    by_first : (fault : Option Code) → first_of (kind.refusals seen (b ∷ bs)) ≡ fault → (v : Option V) → kind.value_at (b ∷ bs) ≡ v → item_then kind (items_from kind n) seen (b ∷ bs) fault v ≡ Ok all
        → ((v : V) → 0 < kind.size_at (b ∷ bs) → items_from kind n (seen ++ v ∷ []) (drop (kind.size_at (b ∷ bs)) (b ∷ bs)) ≡ Ok all → Found kind (seen ++ v ∷ []) (drop (kind.size_at (b ∷ bs)) (b ∷ bs)) all) → Found kind seen (b ∷ bs) all
    by_first (Some code) none v at e again = absurd cc
    by_first None none None at e again = absurd (no_value (kind.value_at (b ∷ bs)) (has seen (b ∷ bs) (omega arith) none) at)
    by_first None none (Some v) at e again =
        let rest = again v (takes seen (b ∷ bs) (omega arith) none) e in
        record { more = v ∷ rest.more; are = (omega arith, none, at, rest.are); whole = rest.whole ∙ append_assoc seen (v ∷ []) rest.more }

pub are_items : {V : Type 0} (kind : Items V) (bytes : List ℕ) (all : List V) → TakesBytes kind → HasValues kind → items_from kind (length bytes) [] bytes ≡ Ok all → AreItems kind [] bytes all None
are_items {V} kind bytes all takes has h =
    let f = items_found kind (length bytes) [] bytes all takes has (omega arith) h in
    subst (λ (x : List V). AreItems kind [] bytes x None) (sym f.whole) f.are
