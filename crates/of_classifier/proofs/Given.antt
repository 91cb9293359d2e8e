-- The numbers that a slab has assigned.
use Rattle.std.proofs.Common.{◌≡◌, ℕ, Bool, true, false, not, eqb, List, [], ◌∷◌, ◌++◌, Option, Some, None, refl, arith}
use Rattle.std.{specs.Prelude.filter, specs.Prelude.is_some, proofs.lemmas.Bool.Decides.nat_tests, proofs.lemmas.Bool.Decides.eqb_tells, proofs.lemmas.List.Folds.list_all-append}
use Rattle.slab.specs.Slab.{Slab, get, Updates}
use Rattle.of_wire.specs.Numbered.{is_used, without, only, moved_to_end}
use Rattle.of_classifier.specs.{declared.Row.Row, Rows.row_number, Scanning.are_given}

-- a number that the slab has nothing at is not used
pub unused_of_vacant : {T : Type 0} (slab : Slab T) (rows : List Row) (n : ℕ) → are_given slab rows ≡ true → get slab n ≡ None → is_used row_number n rows ≡ false
unused_of_vacant slab [] n given vacant = refl
unused_of_vacant slab (r ∷ rows) n given vacant = grind (arith, nat_tests, unused_of_vacant slab rows n, vacant)

pub given-push : {T : Type 0} (old new : Slab T) (v : T) (rows : List Row) (r : Row) → are_given old rows ≡ true → Updates old new r.number (Some v) → are_given new (rows ++ r ∷ []) ≡ true
given-push old new v [] r given u = rw u.changed refl
given-push old new v (x ∷ rows) r given u = grind (arith, nat_tests, given-push old new v rows r, u.others x.number, u.changed, eqb_tells x.number r.number)

pub given-without : {T : Type 0} (old new : Slab T) (n : ℕ) (v : Option T) (rows : List Row) → are_given old rows ≡ true → Updates old new n v → are_given new (without row_number n rows) ≡ true
given-without old new n v [] given u = refl
given-without old new n v (x ∷ rows) given u = grind (arith, nat_tests, given-without old new n v rows, u.others x.number, eqb_tells x.number n)

given-filter : {T : Type 0} (slab : Slab T) (p : Row → Bool) (rows : List Row) → are_given slab rows ≡ true → are_given slab (filter p rows) ≡ true
given-filter slab p [] d = refl
given-filter slab p (r ∷ rows) d = grind (arith, nat_tests, given-filter slab p rows)

pub given-moved_to_end : {T : Type 0} (slab : Slab T) (n : ℕ) (rows : List Row) → are_given slab rows ≡ true → are_given slab (moved_to_end row_number n rows) ≡ true
given-moved_to_end slab n rows d = rw (list_all-append (λ r. is_some (get slab r.number)) (without row_number n rows) (only row_number n rows), given-filter slab (λ r. not (eqb r.number n)) rows d) (given-filter slab (λ r. eqb r.number n) rows d)
