-- The winner of a classifier is the entry that a packet hits.
use Rattle.std.proofs.Common.{◌≡◌, ℕ, suc, ◌+◌, ◌<◌, Bool, true, false, ◌&&◌, cond, List, [], ◌∷◌, Option, Some, None, length, refl, sym, ap, ◌∙◌, arith}
use Rattle.std.specs.Prelude.{find, nat_le, position, IfSome, IsTrue}
use Rattle.std.specs.{List.list_all, Option.option_map}
use Rattle.of_layers.specs.declared.field.Field.{Field}
use Rattle.of_wire.specs.{Highest.is_highest, Numbered.is_distinct}
use Rattle.of_oxm.specs.Relations.{matches_map}
use Rattle.of_classifier.{specs.declared.Row.Row, specs.Rows.made_row, specs.Rows.row_priority, proofs.Finding.find-filter}
use Rattle.of_classifier.specs.Winner as rows
use Rattle.of_table.specs.Entries.{flows_of, classifier_row, rows_of, entry_number, place_of, is_entry_there}
use Rattle.of_table.specs.{Table.rows_from, Table.winner_place, declared.entry.Entry.Entry}
use Rattle.of_table.proofs.{PlaceLemmas.find-map, PlaceLemmas.position_some, PlaceLemmas.position-first, PlaceLemmas.position-later, NumberLemmas.found_place, NumberLemmas.found_is_there}

-- it matches, and none that matches has a higher priority
abbrev is_best : (Field → Option ℕ) → List Row → Row → Bool
is_best map all r = rows.is_matching map r && is_highest row_priority (rows.matching all map) r

-- the entry that a packet hits
abbrev best_entry : (Field → Option ℕ) → List Entry → Option Entry
best_entry map es = find (λ e. is_best map (rows_of es) (classifier_row e)) es

winner_entry : (map : Field → Option ℕ) (es : List Entry) → rows.winner_of (rows_of es) map ≡ option_map classifier_row (best_entry map es)
winner_entry map es =
    find-filter (rows.is_matching map) (is_highest row_priority (rows.matching (rows_of es) map)) (rows_of es)
    ∙ find-map classifier_row (is_best map (rows_of es)) es

number-row : (o : Option Entry) → rows.winner_number (option_map classifier_row o) ≡ option_map entry_number o
number-row None = refl
number-row (Some e) = refl

-- the number that a classifier returns is that of the entry
answered : (map : Field → Option ℕ) (es : List Entry) → rows.winner_number (rows.winner_of (rows_of es) map) ≡ option_map entry_number (best_entry map es)
answered map es = ap rows.winner_number (winner_entry map es) ∙ number-row (best_entry map es)

-- ---- by places

-- no matching row is higher, whatever its number
highest_same : (map : Field → Option ℕ) (q k : ℕ) (es : List Entry) → list_all (λ r. nat_le r.priority q) (rows.matching (rows_from k (flows_of es)) map) ≡ list_all (λ r. nat_le r.priority q) (rows.matching (rows_of es) map)
highest_same map q k [] = refl
highest_same map q k (e ∷ es) = by_test (matches_map e.flow.fields map) (highest_same map q (suc k) es)
  where
    by_test : (b : Bool) → list_all (λ r. nat_le r.priority q) (rows.matching (rows_from (suc k) (flows_of es)) map) ≡ list_all (λ r. nat_le r.priority q) (rows.matching (rows_of es) map)
        → list_all (λ r. nat_le r.priority q) (cond b (made_row k e.flow.priority e.flow.fields ∷ rows.matching (rows_from (suc k) (flows_of es)) map) (rows.matching (rows_from (suc k) (flows_of es)) map))
        ≡ list_all (λ r. nat_le r.priority q) (cond b (classifier_row e ∷ rows.matching (rows_of es) map) (rows.matching (rows_of es) map))
    by_test true ih = ap (λ b. nat_le e.flow.priority q && b) ih
    by_test false ih = ih

one_later : (k : ℕ) (o : Option ℕ) → option_map (λ n. suc k + n) o ≡ option_map (λ n. k + n) (option_map (λ n. n + 1) o)
one_later k None = refl
one_later k (Some n) = ap Some (omega arith)

-- the first row that passes has the place of the first entry that does
found_row : (p : Row → Bool) (q : Entry → Bool) → ((j : ℕ) (e : Entry) → p (made_row j e.flow.priority e.flow.fields) ≡ q e) → (k : ℕ) (es : List Entry) → rows.winner_number (find p (rows_from k (flows_of es))) ≡ option_map (λ n. k + n) (position q es)
found_row p q same k [] = refl
found_row p q same k (e ∷ es) = by_test (q e) refl (found_row p q same (suc k) es)
  where
    by_test : (b : Bool) → q e ≡ b → rows.winner_number (find p (rows_from (suc k) (flows_of es))) ≡ option_map (λ n. suc k + n) (position q es) → rows.winner_number (find p (rows_from k (flows_of (e ∷ es)))) ≡ option_map (λ n. k + n) (position q (e ∷ es))
    by_test true passes ih =
        let here : p (made_row k e.flow.priority e.flow.fields) ≡ true = same k e ∙ passes in
        rw (here, position-first q e es passes) (ap Some (omega arith))
    by_test false fails ih =
        let here : p (made_row k e.flow.priority e.flow.fields) ≡ false = same k e ∙ fails in
        rw (here, position-later q e es fails) (ih ∙ one_later k (position q es))

zero_more : (o : Option ℕ) → option_map (λ n. 0 + n) o ≡ o
zero_more None = refl
zero_more (Some n) = ap Some (omega arith)

-- the place of the winner is that of the best entry
place_best : (map : Field → Option ℕ) (es : List Entry) → winner_place map (flows_of es) ≡ position (λ e. is_best map (rows_of es) (classifier_row e)) es
place_best map es =
    ap rows.winner_number (find-filter (rows.is_matching map) (is_highest row_priority (rows.matching (rows_from 0 (flows_of es)) map)) (rows_from 0 (flows_of es)))
    ∙ found_row (is_best map (rows_from 0 (flows_of es))) (λ e. is_best map (rows_of es) (classifier_row e)) (λ j e. ap (λ b. matches_map e.flow.fields map && b) (highest_same map e.flow.priority 0 es)) 0 es
    ∙ zero_more (position (λ e. is_best map (rows_of es) (classifier_row e)) es)

-- where there is a winner there is an entry
pub winner_within : (map : Field → Option ℕ) (es : List Entry) (k : ℕ) → winner_place map (flows_of es) ≡ Some k → k < length es
winner_within map es k h = (position_some (λ e. is_best map (rows_of es) (classifier_row e)) es k (sym (place_best map es) ∙ h)).1

map-map : (f : ℕ → ℕ) (o : Option Entry) → option_map (λ e. f e.number) o ≡ option_map f (option_map entry_number o)
map-map f None = refl
map-map f (Some e) = refl

-- the place of the number that a classifier returns is that of the winner
pub answer_place : (map : Field → Option ℕ) (es : List Entry) (answer : Option ℕ) → is_distinct entry_number es ≡ true → answer ≡ rows.winner_number (rows.winner_of (rows_of es) map)
    → winner_place map (flows_of es) ≡ option_map (λ number. place_of number es) answer
answer_place map es answer distinct h =
    place_best map es
    ∙ found_place (λ e. is_best map (rows_of es) (classifier_row e)) es distinct
    ∙ map-map (λ number. place_of number es) (best_entry map es)
    ∙ ap (option_map (λ number. place_of number es)) (sym (h ∙ answered map es))

-- and it exists
pub answer_there : (map : Field → Option ℕ) (es : List Entry) (answer : Option ℕ) → answer ≡ rows.winner_number (rows.winner_of (rows_of es) map) → IfSome answer (λ number. IsTrue (is_entry_there number es))
answer_there map es answer h = rw (h ∙ answered map es) (by_entry (best_entry map es) refl)
  where
    by_entry : (o : Option Entry) → best_entry map es ≡ o → IfSome (option_map entry_number o) (λ number. IsTrue (is_entry_there number es))
    by_entry None is = tt
    by_entry (Some e) is = found_is_there (λ x. is_best map (rows_of es) (classifier_row x)) es e is
