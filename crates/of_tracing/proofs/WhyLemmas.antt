-- Winners and those that they beat.
use Rattle.std.proofs.Common.{◌≡◌, ◌≢◌, ℕ, ◌+◌, ◌<◌, ◌≤◌, suc, zero, Bool, true, false, ◌&&◌, cond, List, [], ◌∷◌, Option, Some, None, refl, sym, ap, ◌∙◌, arith}
use Rattle.std.specs.Prelude.{slice_get, not, find}
use Rattle.of_layers.specs.declared.field.Field.{Field}
use Rattle.of_oxm.specs.{declared.match_field.MatchField.MatchField, Relations.agrees, Relations.matches_map}
use Rattle.of_classifier.{specs.declared.Row.Row, specs.Rows.made_row, specs.Winner.winner_of, specs.Winner.winner_number, specs.Winner.Wins, proofs.WinnerLaw.wins_both, proofs.WinnerLaw.none_both}
use Rattle.of_table.specs.{Table.FlowEntry, Table.rows_from, Table.winner_place, Tables.table_at}
use Rattle.of_datapath.specs.Datapath.{Forwarding, winner_in}
use Rattle.of_tracing.specs.Why.{HasDifference, IsBeaten, HasLowerPriority, IsYounger}

-- ---- what the datapath that a switch lends answers is so of the switch

pub lent_winner : {f lent : Forwarding} (t : ℕ) (map : Field → Option ℕ) {found : Option ℕ} → f ≡ lent → found ≡ winner_in lent t map → winner_place map (table_at t f.tables).flows ≡ found
lent_winner t map same is = ap (λ (x : Forwarding). winner_in x t map) same ∙ sym is

pub lent_entry : {f lent : Forwarding} (t place : ℕ) {found : Option FlowEntry} → f ≡ lent → found ≡ slice_get (table_at t lent.tables).flows place → slice_get (table_at t f.tables).flows place ≡ found
lent_entry t place same is = ap (λ (x : Forwarding). slice_get (table_at t x.tables).flows place) same ∙ sym is

-- ---- what a classifier sees of the entries

-- the row at a place is that of the entry there
record IsRowOf (k : ℕ) (flows : List FlowEntry) (j : ℕ) (r : Row) : Type 0 where
  entry : FlowEntry
  there : slice_get flows j ≡ Some entry
  is : r ≡ made_row (k + j) entry.flow.priority entry.flow.fields

no_place : {A : Type 0} (j : ℕ) (x : A) → slice_get [] j ≡ Some x → ⊥
no_place zero x h = cc
no_place (suc j) x h = cc

row_at : (k : ℕ) (flows : List FlowEntry) (j : ℕ) (e : FlowEntry) → slice_get flows j ≡ Some e → slice_get (rows_from k flows) j ≡ Some (made_row (k + j) e.flow.priority e.flow.fields)
row_at k [] j e h = absurd (no_place j e h)
row_at k (f ∷ flows) zero e h =
    let same : f ≡ e = cc in
    rw (same) (ap (λ (i : ℕ). Some (made_row i e.flow.priority e.flow.fields)) (omega arith))
row_at k (f ∷ flows) (suc j) e h =
    row_at (suc k) flows j e h ∙ ap (λ (i : ℕ). Some (made_row i e.flow.priority e.flow.fields)) (omega arith)

entry_of_row : (k : ℕ) (flows : List FlowEntry) (j : ℕ) (r : Row) → slice_get (rows_from k flows) j ≡ Some r → IsRowOf k flows j r
entry_of_row k [] j r h = absurd (no_place j r h)
entry_of_row k (f ∷ flows) zero r h =
    let same : r ≡ made_row k f.flow.priority f.flow.fields = cc in
    record { entry = f; there = refl; is = same ∙ ap (λ (i : ℕ). made_row i f.flow.priority f.flow.fields) (omega arith) }
entry_of_row k (f ∷ flows) (suc j) r h =
    let behind = entry_of_row (suc k) flows j r h in
    record { entry = behind.entry; there = behind.there; is = behind.is ∙ ap (λ (i : ℕ). made_row i behind.entry.flow.priority behind.entry.flow.fields) (omega arith) }

-- ---- the winner

-- none that matches is better than the entry at this place
pub record IsBest (flows : List FlowEntry) (map : Field → Option ℕ) (k : ℕ) : Type 0 where
  pub better : FlowEntry
  pub there : slice_get flows k ≡ Some better
  pub highest : (j : ℕ) (e : FlowEntry) → slice_get flows j ≡ Some e → matches_map e.flow.fields map ≡ true → e.flow.priority ≤ better.flow.priority
  pub oldest : (j : ℕ) (e : FlowEntry) → slice_get flows j ≡ Some e → matches_map e.flow.fields map ≡ true → e.flow.priority ≡ better.flow.priority → k ≤ j

best_by : (flows : List FlowEntry) (map : Field → Option ℕ) (r : Row) (place : ℕ) → Wins (rows_from 0 flows) map place r → IsBest flows map r.number
best_by flows map r place w =
    let here = entry_of_row 0 flows place r w.stands in
    let number : r.number ≡ place = ap (λ (x : Row). x.number) here.is ∙ omega arith in
    let rank : r.priority ≡ here.entry.flow.priority = ap (λ (x : Row). x.priority) here.is in
    record {
      better = here.entry;
      there = ap (λ (i : ℕ). slice_get flows i) number ∙ here.there;
      highest = λ j e at m. rw (← rank) (w.highest j (made_row (0 + j) e.flow.priority e.flow.fields) (row_at 0 flows j e at) m);
      oldest = λ j e at m same. let first = w.oldest j (made_row (0 + j) e.flow.priority e.flow.fields) (row_at 0 flows j e at) m (same ∙ sym rank) in omega (arith, first, number);
    }

best_of : (flows : List FlowEntry) (map : Field → Option ℕ) (k : ℕ) (found : Option Row) → winner_of (rows_from 0 flows) map ≡ found → winner_number found ≡ Some k → IsBest flows map k
best_of flows map k None e h = absurd cc
best_of flows map k (Some r) e h =
    let same : r.number ≡ k = cc in
    let wins = (wins_both (rows_from 0 flows) map r).0 e in
    rw (← same) (best_by flows map r wins.0 wins.1)

pub winner_is_best : (flows : List FlowEntry) (map : Field → Option ℕ) (k : ℕ) → winner_place map flows ≡ Some k → IsBest flows map k
winner_is_best flows map k h = best_of flows map k (winner_of (rows_from 0 flows) map) refl h

-- where one matches there is a winner
none_by : (flows : List FlowEntry) (map : Field → Option ℕ) (found : Option Row) → winner_of (rows_from 0 flows) map ≡ found → winner_number found ≡ None → (j : ℕ) (e : FlowEntry) → slice_get flows j ≡ Some e → matches_map e.flow.fields map ≡ true → ⊥
none_by flows map (Some r) is h j e at m = cc
none_by flows map None is h j e at m =
    let none = (none_both (rows_from 0 flows) map).0 is in
    let no : matches_map e.flow.fields map ≡ false = none j (made_row (0 + j) e.flow.priority e.flow.fields) (row_at 0 flows j e at) in
    cc

pub some_wins : (flows : List FlowEntry) (map : Field → Option ℕ) → winner_place map flows ≡ None → (j : ℕ) (e : FlowEntry) → slice_get flows j ≡ Some e → matches_map e.flow.fields map ≡ true → ⊥
some_wins flows map h = none_by flows map (winner_of (rows_from 0 flows) map) refl h

-- ---- those that it beats

module _ (flows : List FlowEntry) (map : Field → Option ℕ) (place winner : ℕ) (entry better : FlowEntry) (there : slice_get flows place ≡ Some entry) (matches : matches_map entry.flow.fields map ≡ true) (wins : winner_place map flows ≡ Some winner) (better_there : slice_get flows winner ≡ Some better) where
  beaten : IsBeaten flows map place winner
  beaten = record { entry = entry; there = there; matches = matches; better = better; better_there = better_there; wins = wins }

  pub by_priority : entry.flow.priority < better.flow.priority → HasLowerPriority flows map place winner
  unfolding beaten
  by_priority lt = record { beaten = beaten; lower = lt }

  pub by_age : better.flow.priority ≤ entry.flow.priority → winner ≢ place → IsYounger flows map place winner
  unfolding beaten
  by_age le other =
      let best = winner_is_best flows map winner wins in
      let one : best.better ≡ better = let x = best.there in cc in
      let rank : best.better.flow.priority ≡ better.flow.priority = ap (λ (x : FlowEntry). x.flow.priority) one in
      let most = best.highest place entry there matches in
      let equal : entry.flow.priority ≡ best.better.flow.priority = omega arith in
      let first = best.oldest place entry there matches equal in
      record { beaten = beaten; same = equal ∙ rank; older = omega arith }

-- ---- fields that differ

record IsFirst (m : List MatchField) (map : Field → Option ℕ) (e : MatchField) : Type 0 where
  stand : ℕ
  stands : slice_get m stand ≡ Some e
  differs : agrees e (map e.field) ≡ false
  first : (k : ℕ) (x : MatchField) → k < stand → slice_get m k ≡ Some x → agrees x (map x.field) ≡ true

abbrev pub difference : List MatchField → (Field → Option ℕ) → Option MatchField
difference m map = find (λ e. not (agrees e (map e.field))) m

found_by : (x : MatchField) (m : List MatchField) (map : Field → Option ℕ) (e : MatchField) (b : Bool) → agrees x (map x.field) ≡ b → cond (not b) (Some x) (difference m map) ≡ Some e → (difference m map ≡ Some e → IsFirst m map e) → IsFirst (x ∷ m) map e
found_by x m map e false is h ih =
    let same : x ≡ e = cc in
    record { stand = 0; stands = ap Some same; differs = rw (← same) is; first = λ k y lt at. absurd (omega (arith, lt)) }
found_by x m map e true is h ih =
    let behind = ih h in
    record { stand = suc behind.stand; stands = behind.stands; differs = behind.differs; first = before behind }
  where
    before : (behind : IsFirst m map e) (k : ℕ) (y : MatchField) → k < suc behind.stand → slice_get (x ∷ m) k ≡ Some y → agrees y (map y.field) ≡ true
    before behind zero y lt at = let same : x ≡ y = cc in rw (← same) is
    before behind (suc k) y lt at = behind.first k y (omega (arith, lt)) at

first_found : (m : List MatchField) (map : Field → Option ℕ) (e : MatchField) → difference m map ≡ Some e → IsFirst m map e
first_found [] map e h = absurd cc
first_found (x ∷ m) map e h = found_by x m map e (agrees x (map x.field)) refl h (first_found m map e)

pub has_difference : (flows : List FlowEntry) (map : Field → Option ℕ) (place : ℕ) (entry : FlowEntry) (e : MatchField) (found : Option ℕ) → slice_get flows place ≡ Some entry → difference entry.flow.fields map ≡ Some e → found ≡ map e.field → HasDifference flows map place e found
has_difference flows map place entry e found there h is =
    let f = first_found entry.flow.fields map e h in
    record { entry = entry; there = there; stand = f.stand; stands = f.stands; found_is = is; differs = ap (agrees e) is ∙ f.differs; first = f.first }

none_by_test : (x : MatchField) (m : List MatchField) (map : Field → Option ℕ) (b : Bool) → agrees x (map x.field) ≡ b → cond (not b) (Some x) (difference m map) ≡ None → (difference m map ≡ None → matches_map m map ≡ true) → (b && matches_map m map) ≡ true
none_by_test x m map false is h ih = absurd cc
none_by_test x m map true is h ih = ih h

-- where none does the entry matches
pub no_difference : (m : List MatchField) (map : Field → Option ℕ) → difference m map ≡ None → matches_map m map ≡ true
no_difference [] map h = refl
no_difference (x ∷ m) map h = none_by_test x m map (agrees x (map x.field)) refl h (no_difference m map)
