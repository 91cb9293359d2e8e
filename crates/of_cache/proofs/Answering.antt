-- The priority of a winner, by its number.
use Rattle.std.proofs.Common.{◌≡◌, ℕ, zero, suc, Bool, true, false, cond, eqb, not, ◌&&◌, ◌||◌, List, [], ◌∷◌, Option, Some, None, refl, sym, ◌∙◌, ap, subst}
use Rattle.std.{specs.Prelude.find, specs.Prelude.slice_get, specs.Prelude.option_map, proofs.lemmas.Bool.eq-eqb, proofs.lemmas.Bool.eqb-true}
use Rattle.of_layers.specs.declared.field.Field.{Field}
use Rattle.of_wire.specs.Numbered.{is_used, is_distinct}
use Rattle.of_classifier.specs.{declared.Row.Row, Rows.row_number, Rows.row_priority, Rows.priority_of, Winner.winner_of, Winner.winner_number, Scanning.pair_of}
use Rattle.of_classifier.proofs.WinnerLaw.{wins_both}

or_true : (a : Bool) → (a || true) ≡ true
or_true true = refl
or_true false = refl

used_there : (xs : List Row) (k : ℕ) (r : Row) (n : ℕ) → slice_get xs k ≡ Some r → r.number ≡ n → is_used row_number n xs ≡ true
used_there [] k r n h e = absurd cc
used_there (x ∷ xs) zero r n h e = let same : x ≡ r = cc in let t : eqb x.number n ≡ true = eq-eqb x.number n (ap (λ (y : Row). y.number) same ∙ e) in rw t refl
used_there (x ∷ xs) (suc k) r n h e = rw (used_there xs k r n h e) (or_true (eqb x.number n))

both : (a b : Bool) → (a && b) ≡ true → (a ≡ true) × (b ≡ true)
both true b h = (refl, h)
both false b h = absurd cc

found_there : (xs : List Row) (k : ℕ) (r : Row) → is_distinct row_number xs ≡ true → slice_get xs k ≡ Some r → find (λ x. eqb x.number r.number) xs ≡ Some r
found_there [] k r d h = absurd cc
found_there (x ∷ xs) zero r d h = let same : x ≡ r = cc in let t : eqb x.number r.number ≡ true = eq-eqb x.number r.number (ap (λ (y : Row). y.number) same) in rw t h
found_there (x ∷ xs) (suc k) r d h = by_test (eqb x.number r.number) refl (found_there xs k r (both (not (is_used row_number x.number xs)) (is_distinct row_number xs) d).1 h)
  where
    by_test : (b : Bool) → eqb x.number r.number ≡ b → find (λ y. eqb y.number r.number) xs ≡ Some r → cond b (Some x) (find (λ y. eqb y.number r.number) xs) ≡ Some r
    by_test true e later =
        let used : is_used row_number x.number xs ≡ true = used_there xs k r x.number h (sym (eqb-true x.number r.number e)) in
        let fresh : not (is_used row_number x.number xs) ≡ true = (both (not (is_used row_number x.number xs)) (is_distinct row_number xs) d).0 in
        absurd (let f : not true ≡ true = subst (λ (b : Bool). not b ≡ true) used fresh in cc)
    by_test false e later = later

winner_priority : (rows : List Row) (map : Field → Option ℕ) (r : Row) → is_distinct row_number rows ≡ true → winner_of rows map ≡ Some r → priority_of r.number rows ≡ Some r.priority
winner_priority rows map r d w = let p = (wins_both rows map r).0 w in ap (option_map row_priority) (found_there rows p.0 r d p.1.stands)

pub answered : (rows : List Row) (map : Field → Option ℕ) (n : ℕ) (o : Option ℕ) (w : Option Row) → is_distinct row_number rows ≡ true → winner_of rows map ≡ w → Some n ≡ winner_number w → o ≡ priority_of n rows → option_map (λ p. (n, p)) o ≡ pair_of w
answered rows map n o None d is e q = absurd cc
answered rows map n o (Some r) d is e q =
    let same : n ≡ r.number = cc in
    let p : o ≡ Some r.priority = q ∙ ap (λ (m : ℕ). priority_of m rows) same ∙ winner_priority rows map r d is in
    ap (option_map (λ (k : ℕ). (n, k))) p ∙ ap (λ (m : ℕ). Some (m, r.priority)) same
