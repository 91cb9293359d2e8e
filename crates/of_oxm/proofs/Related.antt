-- What covers and overlaps say of the field maps that are matched.
use Rattle.std.proofs.Common.{◌≡◌, ℕ, Bool, true, false, eqb, List, [], ◌∷◌, Option, Some, None, refl, sym, ap, subst, ◌∙◌}
use Rattle.std.specs.{Prelude.bit_and, Prelude.not, Prelude.◌&&◌, Prelude.◌||◌, List.list_any, List.list_all, Int.Bits.and_comm}
use Rattle.std.proofs.{lemmas.Bool.eqb-true, lemmas.Bool.eq-eqb, lemmas.Nat.and_assoc}
use Rattle.of_layers.{specs.declared.field.Field.Field, specs.Fields.number_of, proofs.Table.same_number}
use Rattle.of_oxm.specs.Relations.{bits_looked_at, agrees, matches_map, is_within, covers_match, can_both, overlaps_match}
use Rattle.of_oxm.specs.declared.match_field.MatchField.{MatchField}

pub and_true : (a b : Bool) → (a && b) ≡ true → (a ≡ true) × (b ≡ true)
and_true true b h = (refl, h)
and_true false b h = absurd cc

-- a value that agrees with a field agrees with what it is within
agrees_within : (x y : MatchField) (o : Option ℕ) → is_within x y ≡ true → agrees y o ≡ true → agrees x o ≡ true
agrees_within x y None within h = absurd cc
agrees_within x y (Some v) within h =
    let a = bits_looked_at x in
    let b = bits_looked_at y in
    let p = and_true _ _ within in
    let q = and_true _ _ p.0 in
    let wide : bit_and a b ≡ a = eqb-true _ _ q.1 in
    let same : bit_and y.value a ≡ x.value = eqb-true _ _ p.1 in
    let agree : bit_and v b ≡ y.value = eqb-true _ _ h in
    let parts : bit_and v a ≡ bit_and (bit_and v b) a = ap (bit_and v) (sym wide ∙ and_comm a b) ∙ sym (and_assoc a v b) in
    eq-eqb _ _ (parts ∙ ap (λ (n : ℕ). bit_and n a) agree ∙ same)

some_agrees : (x : MatchField) (m : List MatchField) (map : Field → Option ℕ) → list_any (λ y. is_within x y) m ≡ true → matches_map m map ≡ true → agrees x (map x.field) ≡ true
some_agrees x [] map some h = absurd cc
some_agrees x (y ∷ ys) map some h =
    let p = and_true (agrees y (map y.field)) (matches_map ys map) h in
    let split : (b : Bool) → is_within x y ≡ b → (b || list_any (λ z. is_within x z) ys) ≡ true → agrees x (map x.field) ≡ true
    = λ b. elim b as (λ b. is_within x y ≡ b → (b || list_any (λ z. is_within x z) ys) ≡ true → agrees x (map x.field) ≡ true) [
      | true ↦ λ within some.
          let field : y.field ≡ x.field = same_number y.field x.field (eqb-true _ _ ((and_true _ _ (and_true _ _ within).0).0)) in
          subst (λ (f : Field). agrees x (map f) ≡ true) field (agrees_within x y (map y.field) within p.0)
      | false ↦ λ within some. some_agrees x ys map some p.1
    ] in
    split (is_within x y) refl some

pub covered_matched : (d m : List MatchField) (map : Field → Option ℕ) → covers_match d m ≡ true → matches_map m map ≡ true → matches_map d map ≡ true
covered_matched [] m map covers h = refl
covered_matched (x ∷ xs) m map covers h =
    let p = and_true (list_any (λ y. is_within x y) m) (covers_match xs m) covers in
    rw (some_agrees x m map p.0 h) (covered_matched xs m map p.1 h)

-- two fields that agree with one value can both be met
both_agree : (x y : MatchField) (o : Option ℕ) → agrees x o ≡ true → agrees y o ≡ true → bit_and y.value (bits_looked_at x) ≡ bit_and x.value (bits_looked_at y)
both_agree x y None p q = absurd cc
both_agree x y (Some v) p q =
    let a = bits_looked_at x in
    let b = bits_looked_at y in
    let one : bit_and v a ≡ x.value = eqb-true _ _ p in
    let other : bit_and v b ≡ y.value = eqb-true _ _ q in
    ap (λ (n : ℕ). bit_and n a) (sym other) ∙ and_assoc a v b ∙ ap (bit_and v) (and_comm b a) ∙ sym (and_assoc b v a) ∙ ap (λ (n : ℕ). bit_and n b) one

both_can : (x y : MatchField) (map : Field → Option ℕ) → agrees x (map x.field) ≡ true → agrees y (map y.field) ≡ true → can_both x y ≡ true
both_can x y map p q =
    let split : (b : Bool) → eqb (number_of y.field) (number_of x.field) ≡ b → (not b || eqb (bit_and y.value (bits_looked_at x)) (bit_and x.value (bits_looked_at y))) ≡ true
    = λ b. elim b as (λ b. eqb (number_of y.field) (number_of x.field) ≡ b → (not b || eqb (bit_and y.value (bits_looked_at x)) (bit_and x.value (bits_looked_at y))) ≡ true) [
      | true ↦ λ same.
          let field : y.field ≡ x.field = same_number y.field x.field (eqb-true _ _ same) in
          eq-eqb _ _ (both_agree x y (map x.field) p (subst (λ (f : Field). agrees y (map f) ≡ true) field q))
      | false ↦ λ same. refl
    ] in
    split (eqb (number_of y.field) (number_of x.field)) refl

all_can : (x : MatchField) (n : List MatchField) (map : Field → Option ℕ) → agrees x (map x.field) ≡ true → matches_map n map ≡ true → list_all (λ y. can_both x y) n ≡ true
all_can x [] map p h = refl
all_can x (y ∷ ys) map p h =
    let q = and_true (agrees y (map y.field)) (matches_map ys map) h in
    rw (both_can x y map p q.0) (all_can x ys map p q.1)

pub matched_overlap : (m n : List MatchField) (map : Field → Option ℕ) → matches_map m map ≡ true → matches_map n map ≡ true → overlaps_match m n ≡ true
matched_overlap [] n map p q = refl
matched_overlap (x ∷ xs) n map p q =
    let h = and_true (agrees x (map x.field)) (matches_map xs map) p in
    rw (all_can x n map h.0 q) (matched_overlap xs n map h.1 q)
