-- Entries by their numbers.
use Rattle.std.proofs.Common.{◌≡◌, ℕ, zero, suc, ◌+◌, ◌<◌, Bool, true, false, cond, eqb, ◌||◌, List, [], ◌∷◌, length, get_or, Option, Some, None, refl, sym, ap, ◌∙◌, arith}
use Rattle.std.specs.{Prelude.position, Prelude.find, Prelude.slice_get, Prelude.nat_lt, List.position_or_len, List.list_any, Option.option_map}
use Rattle.std.proofs.{lemmas.Bool.Decides.nat_tests, lemmas.Bool.Decides.eqb_tells, lemmas.Bool.eq-eqb, lemmas.Option.slice_get-map, lemmas.Option.slice_get-get_or, lemmas.List.Folds.find_at}
use Rattle.of_wire.{specs.Numbered.is_used, specs.Numbered.is_distinct, proofs.NumberedLemmas.distinct-map, proofs.NumberedLemmas.used_at}
use Rattle.of_classifier.specs.{Rows.row_number, Rows.is_same_row, Rows.same_of, Winner.winner_number}
use Rattle.of_table.proofs.PlaceLemmas.{any-map, any-place, find-map, find_none, place-map, position_some, position_none, position-first, position-later}
use Rattle.of_table.specs.Entries.{entry_of, flows_of, classifier_row, rows_of, entry_number, is_entry_there, place_of, find_number}
use Rattle.of_table.specs.{Table.flow_at, declared.entry.Entry.Entry}
use Rattle.of_oxm.specs.declared.match_field.MatchField.{MatchField}

-- the classifier's numbers are distinct exactly where those of the entries are
pub distinct-rows : (es : List Entry) → is_distinct row_number (rows_of es) ≡ is_distinct entry_number es
distinct-rows es = distinct-map classifier_row row_number es

pub used-rows : (number : ℕ) (es : List Entry) → is_used row_number number (rows_of es) ≡ is_entry_there number es
used-rows number es = any-map classifier_row (λ r. eqb r.number number) es ∙ sym (any-map entry_number (λ n. eqb n number) es)

place-number : (number : ℕ) (es : List Entry) → place_of number es ≡ position_or_len (λ e. eqb e.number number) es
place-number number es = place-map entry_number (λ n. eqb n number) es

-- an entry exists exactly where it is found
pub found_number : (number : ℕ) (es : List Entry) → find_number number es ≡ slice_get es (place_of number es)
found_number number es = rw (place-number number es) (find_at (λ e. eqb e.number number) es)

-- what is at the place of a number is the entry of that number
pub entry_at_place : (number : ℕ) (es : List Entry) → slice_get (flows_of es) (place_of number es) ≡ option_map entry_of (find_number number es)
entry_at_place number es = slice_get-map entry_of es (place_of number es) ∙ ap (option_map entry_of) (sym (found_number number es))

pub flow_at_place : (number : ℕ) (es : List Entry) (e : Entry) → find_number number es ≡ Some e → flow_at (place_of number es) (flows_of es) ≡ Some e.flow
flow_at_place number es e h = rw (entry_at_place number es, h) refl

pub number_some : (number : ℕ) (es : List Entry) (k : ℕ) → position (λ e. eqb e.number number) es ≡ Some k → (k ≡ place_of number es) × (k < length es)
number_some number es k h =
    let s = position_some (λ e. eqb e.number number) es k h in
    (s.0 ∙ sym (place-number number es), s.1)

pub number_none : (number : ℕ) (es : List Entry) → position (λ e. eqb e.number number) es ≡ None → is_entry_there number es ≡ false
number_none number es h = any-map entry_number (λ n. eqb n number) es ∙ position_none (λ e. eqb e.number number) es h

past_all : (number : ℕ) (es : List Entry) → is_entry_there number es ≡ false → place_of number es ≡ length es
past_all number [] h = refl
past_all number (e ∷ es) h = by_test (eqb e.number number) refl (past_all number es)
  where
    by_test : (b : Bool) → eqb e.number number ≡ b → (is_entry_there number es ≡ false → place_of number es ≡ length es) → place_of number (e ∷ es) ≡ length (e ∷ es)
    by_test true same ih = let no : true ≡ false = rw same at h in absurd cc
    by_test false differs ih = let there : is_entry_there number es ≡ false = rw differs at h in let others = ih there in rw differs (omega (arith, others))

pub number_past : (number : ℕ) (es : List Entry) → position (λ e. eqb e.number number) es ≡ None → place_of number es ≡ length es
number_past number es h = past_all number es (number_none number es h)

-- ---- the place of the first entry that passes is that of its number

found_there : (p : Entry → Bool) (es : List Entry) (e : Entry) → find p es ≡ Some e → is_used entry_number e.number es ≡ true
found_there p [] e h = absurd cc
found_there p (x ∷ es) e h = by_test (p x) h (λ g. found_there p es e g)
  where
    by_test : (b : Bool) → cond b (Some x) (find p es) ≡ Some e → (find p es ≡ Some e → is_used entry_number e.number es ≡ true) → is_used entry_number e.number (x ∷ es) ≡ true
    by_test true g ih = let same : x ≡ e = cc in rw (← same) (grind (arith, nat_tests))
    by_test false g ih = let used = ih g in grind (arith, nat_tests, used)

pub found_is_there : (p : Entry → Bool) (es : List Entry) (e : Entry) → find p es ≡ Some e → is_entry_there e.number es ≡ true
found_is_there p es e h = any-map entry_number (λ n. eqb n e.number) es ∙ found_there p es e h

here : (e : Entry) (es : List Entry) → place_of e.number (e ∷ es) ≡ 0
here e es = let same : eqb e.number e.number ≡ true = grind (arith, nat_tests) in rw same refl

later : (e x : Entry) (es : List Entry) → eqb e.number x.number ≡ false → place_of x.number (e ∷ es) ≡ place_of x.number es + 1
later e x es differ = rw differ (omega arith)

pub found_place : (p : Entry → Bool) (es : List Entry) → is_distinct entry_number es ≡ true → position p es ≡ option_map (λ e. place_of e.number es) (find p es)
found_place p [] distinct = refl
found_place p (e ∷ es) distinct = by_test (p e) refl (found_place p es (grind (arith, nat_tests, distinct)))
  where
    by_rest : (o : Option Entry) → find p es ≡ o → p e ≡ false → position p es ≡ option_map (λ x. place_of x.number es) o → position p (e ∷ es) ≡ option_map (λ x. place_of x.number (e ∷ es)) o
    by_rest None is fails ih = position-later p e es fails ∙ rw ih refl
    by_rest (Some x) is fails ih =
        let used = found_there p es x is in
        let differ : eqb e.number x.number ≡ false = grind (arith, nat_tests, eqb_tells e.number x.number, used, distinct) in
        position-later p e es fails ∙ rw ih (ap Some (sym (later e x es differ)))

    by_test : (b : Bool) → p e ≡ b → position p es ≡ option_map (λ x. place_of x.number es) (find p es) → position p (e ∷ es) ≡ option_map (λ x. place_of x.number (e ∷ es)) (find p (e ∷ es))
    by_test true passes ih = position-first p e es passes ∙ rw passes (ap Some (sym (here e es)))
    by_test false fails ih =
        let same : find p (e ∷ es) ≡ find p es = rw fails refl in
        by_rest (find p es) refl fails ih ∙ ap (option_map (λ x. place_of x.number (e ∷ es))) (sym same)

-- ---- the place of the entry of a number

pub stands : (es : List Entry) (k number : ℕ) (d : Entry) → is_distinct entry_number es ≡ true → k < length es → (get_or es k d).number ≡ number → position (λ e. eqb e.number number) es ≡ Some k
stands [] k number d distinct lt is = absurd (omega (arith, lt))
stands (e ∷ es) zero number d distinct lt is = position-first (λ x. eqb x.number number) e es (eq-eqb e.number number is)
stands (e ∷ es) (suc k) number d distinct lt is =
    let within : k < length es = omega (arith, lt) in
    let used : is_used entry_number number es ≡ true = rw is at (used_at entry_number es k d within) in
    let differ : eqb e.number number ≡ false = apart (eqb e.number number) refl used in
    position-later (λ x. eqb x.number number) e es differ ∙ rw (stands es k number d (grind (arith, nat_tests, distinct)) within is) (ap Some (omega arith))
  where
    apart : (b : Bool) → eqb e.number number ≡ b → is_used entry_number number es ≡ true → b ≡ false
    apart true e_is used =
        let same : e.number ≡ number = grind (arith, nat_tests, e_is) in
        let here : is_used entry_number e.number es ≡ true = rw same used in
        let never : true ≡ false = grind (arith, nat_tests, here, distinct) in
        never
    apart false e_is used = refl

number_place : (es : List Entry) (e : Entry) (p : Entry → Bool) → find p es ≡ Some e → position (λ x. eqb x.number e.number) es ≡ Some (place_of e.number es)
number_place es e p h =
    let used = found_there p es e h in
    let within : nat_lt (position_or_len (λ x. eqb x.number e.number) es) (length es) ≡ true = sym (any-place (λ x. eqb x.number e.number) es) ∙ used in
    rw within (ap Some (sym (place-number e.number es)))

-- the number that a classifier finds for a match and a priority is that of the entry
answers : (fields : List MatchField) (priority : ℕ) (es : List Entry) → winner_number (same_of (rows_of es) fields priority) ≡ option_map entry_number (find (λ e. is_same_row fields priority (classifier_row e)) es)
answers fields priority es = ap winner_number (find-map classifier_row (is_same_row fields priority) es) ∙ by_case (find (λ e. is_same_row fields priority (classifier_row e)) es)
  where
    by_case : (o : Option Entry) → winner_number (option_map classifier_row o) ≡ option_map entry_number o
    by_case None = refl
    by_case (Some e) = refl

pub same_some : (fields : List MatchField) (priority : ℕ) (es : List Entry) (number : ℕ) → is_distinct entry_number es ≡ true → Some number ≡ winner_number (same_of (rows_of es) fields priority) → position (λ e. eqb e.number number) es ≡ position (λ e. is_same_row fields priority (classifier_row e)) es
same_some fields priority es number distinct is = by_case (find (λ e. is_same_row fields priority (classifier_row e)) es) refl (is ∙ answers fields priority es)
  where
    by_case : (o : Option Entry) → find (λ e. is_same_row fields priority (classifier_row e)) es ≡ o → Some number ≡ option_map entry_number o → position (λ e. eqb e.number number) es ≡ position (λ e. is_same_row fields priority (classifier_row e)) es
    by_case None found h = absurd cc
    by_case (Some e) found h =
        let same : e.number ≡ number = cc in
        let there : position (λ x. eqb x.number number) es ≡ Some (place_of e.number es) = ap (λ (n : ℕ). position (λ x. eqb x.number n) es) (sym same) ∙ number_place es e (λ x. is_same_row fields priority (classifier_row x)) found in
        let first : position (λ x. is_same_row fields priority (classifier_row x)) es ≡ Some (place_of e.number es) = rw found at (found_place (λ x. is_same_row fields priority (classifier_row x)) es distinct) in
        there ∙ sym first

pub same_none : (fields : List MatchField) (priority : ℕ) (es : List Entry) → is_distinct entry_number es ≡ true → None ≡ winner_number (same_of (rows_of es) fields priority) → position (λ e. is_same_row fields priority (classifier_row e)) es ≡ None
same_none fields priority es distinct is = by_case (find (λ e. is_same_row fields priority (classifier_row e)) es) refl (is ∙ answers fields priority es)
  where
    by_case : (o : Option Entry) → find (λ e. is_same_row fields priority (classifier_row e)) es ≡ o → None ≡ option_map entry_number o → position (λ e. is_same_row fields priority (classifier_row e)) es ≡ None
    by_case None found h = rw found at (found_place (λ x. is_same_row fields priority (classifier_row x)) es distinct)
    by_case (Some e) found h = absurd cc

-- what is at the place of a number
pub number_at : (number : ℕ) (es : List Entry) (k : ℕ) (e : Entry) → position (λ x. eqb x.number number) es ≡ Some k → e ≡ get_or es k e → find_number number es ≡ Some e
number_at number es k e h is =
    let s = position_some (λ x. eqb x.number number) es k h in
    find_at (λ x. eqb x.number number) es ∙ ap (slice_get es) (sym s.0) ∙ slice_get-get_or es k e s.1 ∙ ap Some (sym is)

pub number_nowhere : (number : ℕ) (es : List Entry) → position (λ x. eqb x.number number) es ≡ None → find_number number es ≡ None
number_nowhere number es h = find_none (λ x. eqb x.number number) es (position_none (λ x. eqb x.number number) es h)

pub there_not_none : {A : Type 0} (number : ℕ) (es : List Entry) → is_entry_there number es ≡ true → find_number number es ≡ None → A
there_not_none number es there none =
    let some : list_any (λ e. eqb e.number number) es ≡ true = sym (any-map entry_number (λ n. eqb n number) es) ∙ there in
    never (find_some (λ e. eqb e.number number) es some) none
  where
    find_some : (p : Entry → Bool) (xs : List Entry) → list_any p xs ≡ true → (e : Entry) × (find p xs ≡ Some e)
    find_some p [] h = absurd cc
    find_some p (x ∷ xs) h = by_test (p x) refl h (find_some p xs)
      where
        by_test : (b : Bool) → p x ≡ b → (b || list_any p xs) ≡ true → (list_any p xs ≡ true → (e : Entry) × (find p xs ≡ Some e)) → (e : Entry) × (cond b (Some x) (find p xs) ≡ Some e)
        by_test true is g ih = (x, refl)
        by_test false is g ih = ih g

    never : {B : Type 0} → (e : Entry) × (find_number number es ≡ Some e) → find_number number es ≡ None → B
    never found none = let s = found.1 in absurd cc
