-- What `same` finds is an entry.
use Rattle.std.proofs.Common.{◌≡◌, ℕ, Bool, true, false, cond, eqb, ◌||◌, List, [], ◌∷◌, Some, refl}
use Rattle.std.{specs.Prelude.find, proofs.lemmas.Bool.eq-eqb}
use Rattle.of_oxm.specs.declared.match_field.MatchField.{MatchField}
use Rattle.of_wire.specs.Numbered.{is_used}
use Rattle.of_classifier.specs.{declared.Row.Row, Rows.row_number, Rows.is_same_row, Rows.same_of, Winner.winner_number}

or_true : (a : Bool) → (a || true) ≡ true
or_true true = refl
or_true false = refl

pub same_used : (rows : List Row) (fields : List MatchField) (p n : ℕ) → winner_number (same_of rows fields p) ≡ Some n → is_used row_number n rows ≡ true
same_used [] fields p n h = absurd cc
same_used (r ∷ rs) fields p n h = by_test (is_same_row fields p r) h (same_used rs fields p n)
  where
    by_test : (b : Bool) → winner_number (cond b (Some r) (find (is_same_row fields p) rs)) ≡ Some n → (winner_number (find (is_same_row fields p) rs) ≡ Some n → is_used row_number n rs ≡ true) → (eqb r.number n || is_used row_number n rs) ≡ true
    by_test true e later = let s : r.number ≡ n = cc in rw (eq-eqb r.number n s) refl
    by_test false e later = rw (later e) (or_true (eqb r.number n))
