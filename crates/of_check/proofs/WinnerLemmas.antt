-- An entry that wins has no matching entry before it.
use Rattle.std.proofs.Common.{◌≡◌, ℕ, ◌+◌, ◌≤◌, ◌<◌, ◌⊎◌, zero, suc, true, false, List, [], ◌∷◌, Option, Some, None, refl, sym, ap, subst, ◌∙◌, arith, inl, inr}
use Rattle.std.{specs.Prelude.slice_get, proofs.lemmas.Bool.cases_lt}
use Rattle.of_layers.specs.declared.field.Field.{Field}
use Rattle.of_oxm.specs.Relations.{matches_map}
use Rattle.of_classifier.{specs.declared.Row.Row, specs.Rows.made_row, specs.Winner.winner_of, specs.Winner.winner_number, specs.Winner.Wins, proofs.WinnerLaw.wins_both}
use Rattle.of_table.specs.Table.{FlowEntry, rows_from, winner_place}
use Rattle.of_check.specs.Verdicts.{Packet, IsPacket, Matches, NeverWins, GoesBefore, fields_of}

-- the row of an entry, where places are counted from n on
abbrev row_of : ℕ → FlowEntry → Row
row_of n e = made_row n e.flow.priority e.flow.fields

row_at : (n : ℕ) (flows : List FlowEntry) (j : ℕ) (e : FlowEntry) → slice_get flows j ≡ Some e → slice_get (rows_from n flows) j ≡ Some (row_of (n + j) e)
row_at n [] zero e h = absurd cc
row_at n [] (suc j) e h = absurd cc
row_at n (f ∷ flows) zero e h = let same : f ≡ e = cc in rw same (ap (λ (i : ℕ). Some (row_of i e)) (omega arith))
row_at n (f ∷ flows) (suc j) e h = row_at (suc n) flows j e h ∙ ap (λ (i : ℕ). Some (row_of i e)) (omega arith)

-- the entry of a row
record IsEntryOf (flows : List FlowEntry) (j : ℕ) (r : Row) : Type 0 where
  entry : FlowEntry
  there : slice_get flows j ≡ Some entry
  fields : r.fields ≡ entry.flow.fields
  priority : r.priority ≡ entry.flow.priority

entry_at : (n : ℕ) (flows : List FlowEntry) (j : ℕ) (r : Row) → slice_get (rows_from n flows) j ≡ Some r → IsEntryOf flows j r
entry_at n [] zero r h = absurd cc
entry_at n [] (suc j) r h = absurd cc
entry_at n (f ∷ flows) zero r h = let same : r ≡ row_of n f = cc in record { entry = f; there = refl; fields = ap (λ (x : Row). x.fields) same; priority = ap (λ (x : Row). x.priority) same }
entry_at n (f ∷ flows) (suc j) r h =
    let behind = entry_at (suc n) flows j r h in
    record { entry = behind.entry; there = behind.there; fields = behind.fields; priority = behind.priority }

number_at : (n : ℕ) (flows : List FlowEntry) (j : ℕ) (r : Row) → slice_get (rows_from n flows) j ≡ Some r → r.number ≡ n + j
number_at n [] zero r h = absurd cc
number_at n [] (suc j) r h = absurd cc
number_at n (f ∷ flows) zero r h = let same : r ≡ row_of n f = cc in ap (λ (x : Row). x.number) same ∙ omega arith
number_at n (f ∷ flows) (suc j) r h = number_at (suc n) flows j r h ∙ omega arith

-- no entry that matches goes before the winner
none_before : (flows : List FlowEntry) (map : Field → Option ℕ) (k place : ℕ) (r : Row) → Wins (rows_from 0 flows) map place r → r.number ≡ k
    → (j : ℕ) → GoesBefore flows j k → (e : FlowEntry) → slice_get flows j ≡ Some e → matches_map e.flow.fields map ≡ true → ⊥
none_before flows map k place r w number j b e at m =
    let at_place = number_at 0 flows place r w.stands in
    let place_is : place ≡ k = omega (arith, at_place, number) in
    let own : Some r ≡ Some (row_of (0 + k) b.second) = sym w.stands ∙ ap (slice_get (rows_from 0 flows)) place_is ∙ row_at 0 flows k b.second b.second_there in
    let rank : r.priority ≡ b.second.flow.priority = ap (λ (x : Row). x.priority) (let s : r ≡ row_of (0 + k) b.second = cc in s) in
    let same : e ≡ b.first = let t = b.first_there in cc in
    let level : e.flow.priority ≡ b.first.flow.priority = ap (λ (x : FlowEntry). x.flow.priority) same in
    let most : e.flow.priority ≤ r.priority = w.highest j (row_of (0 + j) e) (row_at 0 flows j e at) m in
    elim b.before as (λ x. ⊥) [
      | inl higher ↦ absurd (omega (arith, higher, most, rank, level))
      | inr older ↦
          let equal : e.flow.priority ≡ r.priority = level ∙ older.0 ∙ sym rank in
          let first : place ≤ j = w.oldest j (row_of (0 + j) e) (row_at 0 flows j e at) m equal in
          absurd (omega (arith, older.1, first, place_is))
    ]

won_by : (flows : List FlowEntry) (map : Field → Option ℕ) (k : ℕ) (found : Option Row) → winner_of (rows_from 0 flows) map ≡ found → winner_number found ≡ Some k
    → (j : ℕ) → GoesBefore flows j k → (e : FlowEntry) → slice_get flows j ≡ Some e → matches_map e.flow.fields map ≡ true → ⊥
won_by flows map k None is number j b e at m = absurd cc
won_by flows map k (Some r) is number j b e at m =
    let wins = (wins_both (rows_from 0 flows) map r).0 is in
    none_before flows map k wins.0 r wins.1 (let s : r.number ≡ k = cc in s) j b e at m

-- the winner matches
winner_matches : (flows : List FlowEntry) (p : Packet) (k place : ℕ) (r : Row) → Wins (rows_from 0 flows) (fields_of p) place r → r.number ≡ k → Matches flows k p
winner_matches flows p k place r w number =
    let at_place = number_at 0 flows place r w.stands in
    let place_is : place ≡ k = omega (arith, at_place, number) in
    let own = entry_at 0 flows place r w.stands in
    record { entry = own.entry; there = ap (slice_get flows) (sym place_is) ∙ own.there; matches = ap (λ m. matches_map m (fields_of p)) (sym own.fields) ∙ w.matches }

won_matches : (flows : List FlowEntry) (p : Packet) (k : ℕ) (found : Option Row) → winner_of (rows_from 0 flows) (fields_of p) ≡ found → winner_number found ≡ Some k → Matches flows k p
won_matches flows p k None is number = absurd cc
won_matches flows p k (Some r) is number =
    let wins = (wins_both (rows_from 0 flows) (fields_of p) r).0 is in
    winner_matches flows p k wins.0 r wins.1 (let s : r.number ≡ k = cc in s)

-- it stands at its place, and matches
pub winner_agrees : (flows : List FlowEntry) (map : Field → Option ℕ) (k : ℕ) (found : Option Row) → winner_of (rows_from 0 flows) map ≡ found → winner_number found ≡ Some k
    → (e : FlowEntry) × (slice_get flows k ≡ Some e) × (matches_map e.flow.fields map ≡ true)
winner_agrees flows map k None is number = absurd cc
winner_agrees flows map k (Some r) is number =
    let wins = (wins_both (rows_from 0 flows) map r).0 is in
    let at_place = number_at 0 flows wins.0 r wins.1.stands in
    let s : r.number ≡ k = cc in
    let place_is : wins.0 ≡ k = omega (arith, at_place, s) in
    let own = entry_at 0 flows wins.0 r wins.1.stands in
    (own.entry, ap (slice_get flows) (sym place_is) ∙ own.there, ap (λ m. matches_map m map) (sym own.fields) ∙ wins.1.matches)

pub never_wins : (flows : List FlowEntry) (k : ℕ) (by : List ℕ) → NeverWins flows k by → (p : Packet) → IsPacket p → winner_place (fields_of p) flows ≡ Some k → ⊥
never_wins flows k by never p is wins =
    let found = winner_of (rows_from 0 flows) (fields_of p) in
    let taken = never.covered p is (won_matches flows p k found refl wins) in
    let other = taken.2 in
    won_by flows (fields_of p) k found refl wins taken.0 (never.before taken.0 taken.1) other.entry other.there other.matches

-- ---- an entry that matches wins, if no entry before it matches

pub wins_alone : (flows : List FlowEntry) (map : Field → Option ℕ) (k : ℕ) (e : FlowEntry) → slice_get flows k ≡ Some e → matches_map e.flow.fields map ≡ true
    → ((j : ℕ) (b : GoesBefore flows j k) → matches_map b.first.flow.fields map ≡ false) → winner_place map flows ≡ Some k
wins_alone flows map k e there m none =
    let r : Row = row_of (0 + k) e in
    let wins : Wins (rows_from 0 flows) map k r = record { stands = row_at 0 flows k e there; matches = m; highest = highest; oldest = oldest } in
    ap winner_number ((wins_both (rows_from 0 flows) map r).1 (k, wins)) ∙ ap Some (omega arith)
  where
    no_other : (j : ℕ) (s : Row) → slice_get (rows_from 0 flows) j ≡ Some s → matches_map s.fields map ≡ true → ((e.flow.priority < s.priority) ⊎ ((s.priority ≡ e.flow.priority) × (j < k))) → ⊥
    no_other j s at is before =
        let x = entry_at 0 flows j s at in
        let b : GoesBefore flows j k = record { first = x.entry; first_there = x.there; second = e; second_there = there; before = subst (λ (n : ℕ). (e.flow.priority < n) ⊎ ((n ≡ e.flow.priority) × (j < k))) x.priority before } in
        let yes : matches_map x.entry.flow.fields map ≡ true = ap (λ m. matches_map m map) (sym x.fields) ∙ is in
        let no : matches_map x.entry.flow.fields map ≡ false = none j b in
        cc

    highest : (j : ℕ) (s : Row) → slice_get (rows_from 0 flows) j ≡ Some s → matches_map s.fields map ≡ true → s.priority ≤ e.flow.priority
    highest j s at is = elim (cases_lt e.flow.priority s.priority) as (λ w. s.priority ≤ e.flow.priority) [
      | inl lt ↦ absurd (no_other j s at is (inl lt))
      | inr le ↦ le
    ]

    oldest : (j : ℕ) (s : Row) → slice_get (rows_from 0 flows) j ≡ Some s → matches_map s.fields map ≡ true → s.priority ≡ e.flow.priority → k ≤ j
    oldest j s at is level = elim (cases_lt j k) as (λ w. k ≤ j) [
      | inl lt ↦ absurd (no_other j s at is (inr (level, lt)))
      | inr le ↦ le
    ]
