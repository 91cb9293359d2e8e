-- The lists under the digests of a map, one of which changes.
use Rattle.std.proofs.Common.{◌≡◌, ℕ, Bool, true, false, cond, Option, Some, None, List, [], ◌∷◌, ◌++◌, subst, refl, sym, ◌∙◌, ap}
use Rattle.std.specs.Prelude.{nat_eq, IsSome, Result, Ok, Err, OnOk, OnErr}
use Rattle.std.{specs.HashMap.HashMap, specs.HashMap.get_by, specs.HashMap.UpdatesBy, proofs.lemmas.Bool.eqb-true}
use Rattle.smallvec.specs.SmallVec.{SmallVec, HasRoomFor}
use Rattle.of_mask_groups.specs.Cells.{small_vector_items, cell_at, AreOccupied, AreOccupiedBut, HasCell, HasRoomAt, CellLess, other_numbers}

no_cell : (o : Option (SmallVec ℕ)) → o ≡ None → IsSome o → ⊥
no_cell None e h = absurd cc
no_cell (Some v) e h = absurd cc

more_than_none : (ns : List ℕ) (n : ℕ) → ns ++ n ∷ [] ≡ [] → ⊥
more_than_none [] n e = absurd cc
more_than_none (m ∷ ms) n e = absurd cc

module _ {S : Type 0} where
  -- a new list under a digest that reads as the old one did
  pub cells_kept : (old new : HashMap ℕ (SmallVec ℕ) S) (d : ℕ) (o : Option (SmallVec ℕ)) → UpdatesBy nat_eq (nat_eq d) old new o → small_vector_items o ≡ cell_at old d → (c : ℕ) → cell_at new c ≡ cell_at old c
  cells_kept old new d o u same c = ap small_vector_items (u.0 c) ∙ by_test (nat_eq d c) refl
    where
      by_test : (b : Bool) → nat_eq d c ≡ b → small_vector_items (cond b o (get_by (nat_eq c) old)) ≡ cell_at old c
      by_test true e = same ∙ ap (λ (x : ℕ). cell_at old x) (eqb-true d c e)
      by_test false e = refl

  -- a list with fewer numbers
  pub cell_less : (old new : HashMap ℕ (SmallVec ℕ) S) (d n : ℕ) (v w : SmallVec ℕ) → UpdatesBy nat_eq (nat_eq d) old new (Some w) → get_by (nat_eq d) old ≡ Some v → w.items ≡ other_numbers n v.items → CellLess old new d n
  cell_less old new d n v w u was less = record {
    at = ap small_vector_items u.1 ∙ less ∙ ap (λ (o : Option (SmallVec ℕ)). other_numbers n (small_vector_items o)) (sym was);
    apart = λ c e. ap small_vector_items (u.2 c e);
  }

  -- ---- no list is empty

  pub but_one : (cells : HashMap ℕ (SmallVec ℕ) S) (d : ℕ) → AreOccupied cells → AreOccupiedBut d cells
  but_one cells d h c e there empty = h c there empty

  -- a list that changes leaves the others
  pub others_occupied : (old new : HashMap ℕ (SmallVec ℕ) S) (d : ℕ) (o : Option (SmallVec ℕ)) → UpdatesBy nat_eq (nat_eq d) old new o → AreOccupiedBut d old → AreOccupiedBut d new
  others_occupied old new d o u h c e there empty =
      let same : get_by (nat_eq c) new ≡ get_by (nat_eq c) old = u.2 c e in
      h c e (subst (λ (x : Option (SmallVec ℕ)). IsSome x) same there) (sym (ap small_vector_items same) ∙ empty)

  -- where the list of the digest has numbers, no list is empty
  pub all_occupied : (cells : HashMap ℕ (SmallVec ℕ) S) (d : ℕ) → (HasCell cells d → cell_at cells d ≡ [] → ⊥) → AreOccupiedBut d cells → AreOccupied cells
  all_occupied cells d itself h c there empty = by_test (nat_eq d c) refl
    where
      by_test : (b : Bool) → nat_eq d c ≡ b → ⊥
      by_test true e =
          let s : c ≡ d = sym (eqb-true d c e) in
          itself (subst (λ (x : ℕ). HasCell cells x) s there) (sym (ap (λ (x : ℕ). cell_at cells x) s) ∙ empty)
      by_test false e = h c e there empty

  -- the list of the digest is gone
  pub occupied_without : (old new : HashMap ℕ (SmallVec ℕ) S) (d : ℕ) → UpdatesBy nat_eq (nat_eq d) old new None → AreOccupiedBut d old → AreOccupied new
  occupied_without old new d u h = all_occupied new d (λ there empty. no_cell (get_by (nat_eq d) new) u.1 there) (others_occupied old new d None u h)

  -- the list of the digest has one more number
  pub occupied_more : (old new : HashMap ℕ (SmallVec ℕ) S) (d n : ℕ) (ns : List ℕ) (w : SmallVec ℕ) → UpdatesBy nat_eq (nat_eq d) old new (Some w) → w.items ≡ ns ++ n ∷ [] → AreOccupiedBut d old → AreOccupied new
  occupied_more old new d n ns w u items h = all_occupied new d (λ there empty. more_than_none ns n (sym items ∙ (sym (ap small_vector_items u.1) ∙ empty))) (others_occupied old new d (Some w) u h)

pub no_items : (o : Option (SmallVec ℕ)) → (IsSome o → ⊥) → small_vector_items o ≡ []
no_items None h = refl
no_items (Some v) h = absurd (h refl)

pub room_made : {S E : Type 0} (r : Result (Unit {0}) E) (cells : HashMap ℕ (SmallVec ℕ) S) (d : ℕ) (v : SmallVec ℕ) → get_by (nat_eq d) cells ≡ Some v → OnOk r (HasRoomFor v 1) → OnOk r (HasRoomAt cells d)
room_made (Ok x) cells d v stands room = record { cell = v; stands = stands; room = room }
room_made (Err x) cells d v stands room = tt

pub is_there : {o : Option (SmallVec ℕ)} {v : SmallVec ℕ} → o ≡ Some v → IsSome o
is_there {v = v} e = subst (λ (o : Option (SmallVec ℕ)). IsSome o) (sym e) (let s : IsSome (Some v) = refl in s)

pub on_failure : {A E P : Type 0} (r : Result A E) → P → OnErr r P
on_failure (Ok x) p = tt
on_failure (Err e) p = p
