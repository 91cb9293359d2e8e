-- What is written is read again, whatever follows.
use Rattle.std.proofs.Common.{◌≡◌, ℕ, ◌<◌, List, [], ◌∷◌, ◌++◌, length, drop, Some, None, refl, sym, ap, subst, ◌∙◌}
use Rattle.std.{specs.List.flat_map, proofs.lemmas.List.drop_at}
use Rattle.of_wire.specs.{Refusals.first_of, Items.Items, Items.AreItems}

pub record Again {V : Type 0} (kind : Items V) (text : List ℕ) (v : V) (seen : List V) (x : List ℕ) : Type 0 where
  pub some : 0 < length (text ++ x)
  pub none : first_of (kind.refusals seen (text ++ x)) ≡ None
  pub at : kind.value_at (text ++ x) ≡ Some v
  pub size : kind.size_at (text ++ x) ≡ length text

-- each of these is read again in its place
abbrev pub AllAgain : {V : Type 0} → Items V → (V → List ℕ) → List V → List V → Type 0
AllAgain kind text seen [] = Unit {0}
AllAgain kind text seen (v ∷ vs) = ((x : List ℕ) → Again kind (text v) v seen x) × AllAgain kind text (seen ++ v ∷ []) vs

pub written_items : {V : Type 0} (kind : Items V) (text : V → List ℕ) (seen vs : List V) → AllAgain kind text seen vs → AreItems kind seen (flat_map text vs) vs None
written_items kind text seen [] h = refl
written_items {V} kind text seen (v ∷ vs) h =
    let a = h.0 (flat_map text vs) in
    let cut : drop (kind.size_at (text v ++ flat_map text vs)) (text v ++ flat_map text vs) ≡ flat_map text vs = ap (λ (n : ℕ). drop n (text v ++ flat_map text vs)) a.size ∙ drop_at (text v) (flat_map text vs) (length (text v)) refl in
    (a.some, a.none, a.at, subst (λ (bytes : List ℕ). AreItems kind (seen ++ v ∷ []) bytes vs None) (sym cut) (written_items kind text (seen ++ v ∷ []) vs h.1))
