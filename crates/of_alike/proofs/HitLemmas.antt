-- Which entries a packet hits, in tables of which some entries changed.
use Rattle.std.proofs.Common.{◌≡◌, ℕ, ◌+◌, ◌≤◌, zero, suc, Bool, true, false, List, [], ◌∷◌, map, Option, Some, None, refl, sym, ap, subst, ◌∙◌, arith}
use Rattle.std.specs.{Prelude.slice_get, Option.option_map}
use Rattle.of_layers.specs.declared.field.Field.{Field}
use Rattle.of_oxm.specs.Relations.{matches_map}
use Rattle.of_classifier.{specs.declared.Row.Row, specs.Rows.made_row, specs.Winner.Wins, specs.Winner.winner_number, specs.Winner.winner_of, proofs.WinnerLaw.none_both, proofs.WinnerLaw.wins_both}
use Rattle.of_table.specs.Table.{FlowEntry, rows_from, winner_place}
use Rattle.of_alike.specs.SameTables.{AreChanged, AreSameHits, IsUnmarkedHit, SameTables, EntrySays, says_of, without_marked}
use Rattle.of_alike.specs.declared.tables.Changed.{Changed}

-- ---- tables that say the same

record AreSameFirstEntries (e f : FlowEntry) (es fs : List FlowEntry) : Type 0 where
  first : says_of e ≡ says_of f
  others : SameTables es fs

same_first_entries : (e f : FlowEntry) (es fs : List FlowEntry) → SameTables (e ∷ es) (f ∷ fs) → AreSameFirstEntries e f es fs
same_first_entries e f es fs same = let h : says_of e ∷ map says_of es ≡ says_of f ∷ map says_of fs = same in record { first = cc; others = cc }

same_rows : (n : ℕ) (fs gs : List FlowEntry) → SameTables fs gs → rows_from n fs ≡ rows_from n gs
same_rows n [] [] e = refl
same_rows n [] (g ∷ gs) e = let h : [] ≡ says_of g ∷ map says_of gs = e in absurd cc
same_rows n (f ∷ fs) [] e = let h : says_of f ∷ map says_of fs ≡ [] = e in absurd cc
same_rows n (f ∷ fs) (g ∷ gs) e =
    let h = same_first_entries f g fs gs e in
    let row = ap (λ (s : EntrySays). made_row n s.priority s.fields) h.first in
    let rest = same_rows (suc n) fs gs h.others in
    cc

pub same_winner : (packet : Field → Option ℕ) (fs gs : List FlowEntry) → SameTables fs gs → winner_place packet fs ≡ winner_place packet gs
same_winner packet fs gs e = ap (λ rows. winner_number (winner_of rows packet)) (same_rows 0 fs gs e)

pub same_at : (fs gs : List FlowEntry) → SameTables fs gs → (i : ℕ) → option_map says_of (slice_get fs i) ≡ option_map says_of (slice_get gs i)
same_at [] [] e i = refl
same_at [] (g ∷ gs) e i = let h : [] ≡ says_of g ∷ map says_of gs = e in absurd cc
same_at (f ∷ fs) [] e i = let h : says_of f ∷ map says_of fs ≡ [] = e in absurd cc
same_at (f ∷ fs) (g ∷ gs) e zero = ap Some (same_first_entries f g fs gs e).first
same_at (f ∷ fs) (g ∷ gs) e (suc i) = same_at fs gs (same_first_entries f g fs gs e).others i

-- ---- rows and entries

-- the row of the entry at a place
row_at : (n : ℕ) (flows : List FlowEntry) (j : ℕ) (e : FlowEntry) → slice_get flows j ≡ Some e → slice_get (rows_from n flows) j ≡ Some (made_row (n + j) e.flow.priority e.flow.fields)
row_at n [] zero e h = absurd cc
row_at n [] (suc j) e h = absurd cc
row_at n (f ∷ flows) zero e h = let same : f ≡ e = cc in rw same (ap (λ (i : ℕ). Some (made_row i e.flow.priority e.flow.fields)) (omega arith))
row_at n (f ∷ flows) (suc j) e h = row_at (suc n) flows j e h ∙ ap (λ (i : ℕ). Some (made_row i e.flow.priority e.flow.fields)) (omega arith)

record IsRowOfEntry (flows : List FlowEntry) (n j : ℕ) (r : Row) : Type 0 where
  entry : FlowEntry
  there : slice_get flows j ≡ Some entry
  fields : r.fields ≡ entry.flow.fields
  priority : r.priority ≡ entry.flow.priority
  number : r.number ≡ n + j

entry_at : (n : ℕ) (flows : List FlowEntry) (j : ℕ) (r : Row) → slice_get (rows_from n flows) j ≡ Some r → IsRowOfEntry flows n j r
entry_at n [] zero r h = absurd cc
entry_at n [] (suc j) r h = absurd cc
entry_at n (f ∷ flows) zero r h =
    let same : r ≡ made_row n f.flow.priority f.flow.fields = cc in
    record { entry = f; there = refl; fields = ap (λ (x : Row). x.fields) same; priority = ap (λ (x : Row). x.priority) same; number = ap (λ (x : Row). x.number) same ∙ omega arith }
entry_at n (f ∷ flows) (suc j) r h =
    let behind = entry_at (suc n) flows j r h in
    record { entry = behind.entry; there = behind.there; fields = behind.fields; priority = behind.priority; number = behind.number ∙ omega arith }

-- the entry that wins: it matches, no entry that does has a higher priority, and none of its priority is older
pub record IsHit (packet : Field → Option ℕ) (flows : List FlowEntry) (i : ℕ) : Type 0 where
  pub entry : FlowEntry
  pub there : slice_get flows i ≡ Some entry
  pub matches : matches_map entry.flow.fields packet ≡ true
  pub highest : (j : ℕ) (f : FlowEntry) → slice_get flows j ≡ Some f → matches_map f.flow.fields packet ≡ true → f.flow.priority ≤ entry.flow.priority
  pub oldest : (j : ℕ) (f : FlowEntry) → slice_get flows j ≡ Some f → matches_map f.flow.fields packet ≡ true → f.flow.priority ≡ entry.flow.priority → i ≤ j

abbrev pub IsMiss : (Field → Option ℕ) → List FlowEntry → Type 0
IsMiss packet flows = (j : ℕ) (f : FlowEntry) → slice_get flows j ≡ Some f → matches_map f.flow.fields packet ≡ false

-- what wins, or a miss
abbrev pub IsWinner : (Field → Option ℕ) → List FlowEntry → Option ℕ → Type 0
IsWinner packet flows None = IsMiss packet flows
IsWinner packet flows (Some i) = IsHit packet flows i

module _ (packet : Field → Option ℕ) (flows : List FlowEntry) where
  hit_of : (place : ℕ) (r : Row) → Wins (rows_from 0 flows) packet place r → IsHit packet flows r.number
  hit_of place r w =
      let own = entry_at 0 flows place r w.stands in
      let number : place ≡ r.number = omega (arith, own.number) in
      subst (IsHit packet flows) number
      (record {
        entry = own.entry;
        there = own.there;
        matches = ap (λ m. matches_map m packet) (sym own.fields) ∙ w.matches;
        highest = λ j f at m. (let most = w.highest j (made_row (0 + j) f.flow.priority f.flow.fields) (row_at 0 flows j f at) m in omega (arith, most, own.priority));
        oldest = λ j f at m level. w.oldest j (made_row (0 + j) f.flow.priority f.flow.fields) (row_at 0 flows j f at) m (level ∙ sym own.priority);
      })

  winner_found : (found : Option Row) → winner_of (rows_from 0 flows) packet ≡ found → IsWinner packet flows (winner_number found)
  winner_found None is = λ j f at. (none_both (rows_from 0 flows) packet).0 is j (made_row (0 + j) f.flow.priority f.flow.fields) (row_at 0 flows j f at)
  winner_found (Some r) is = let w = (wins_both (rows_from 0 flows) packet r).0 is in hit_of w.0 r w.1

  pub winner_is : IsWinner packet flows (winner_place packet flows)
  winner_is = winner_found (winner_of (rows_from 0 flows) packet) refl

  pub is_winner : (w : Option ℕ) → IsWinner packet flows w → winner_place packet flows ≡ w
  is_winner None none = ap winner_number ((none_both (rows_from 0 flows) packet).1 (λ k s at.
      let e = entry_at 0 flows k s at in
      ap (λ m. matches_map m packet) e.fields ∙ none k e.entry e.there))
  is_winner (Some i) hit =
      let e = hit.entry in
      let r : Row = made_row (0 + i) e.flow.priority e.flow.fields in
      let wins : Wins (rows_from 0 flows) packet i r = record {
        stands = row_at 0 flows i e hit.there;
        matches = hit.matches;
        highest = λ k s at m. (let x = entry_at 0 flows k s at in let most = hit.highest k x.entry x.there (ap (λ m. matches_map m packet) (sym x.fields) ∙ m) in omega (arith, most, x.priority));
        oldest = λ k s at m level. (let x = entry_at 0 flows k s at in hit.oldest k x.entry x.there (ap (λ m. matches_map m packet) (sym x.fields) ∙ m) (sym x.priority ∙ level));
      } in
      ap winner_number ((wins_both (rows_from 0 flows) packet r).1 (i, wins)) ∙ ap Some (omega arith)

-- ---- without the marked entries

-- the place that an entry has without the marked ones
place_left : List Bool → ℕ → ℕ
place_left marks zero = 0
place_left [] (suc i) = 0
place_left (true ∷ marks) (suc i) = place_left marks i
place_left (false ∷ marks) (suc i) = suc (place_left marks i)

stays_at : (fs : List FlowEntry) (marks : List Bool) (i : ℕ) (e : FlowEntry) → slice_get fs i ≡ Some e → slice_get marks i ≡ Some false → slice_get (without_marked fs marks) (place_left marks i) ≡ Some e
unfolding place_left
stays_at [] marks zero e at stays = absurd cc
stays_at [] marks (suc i) e at stays = absurd cc
stays_at (f ∷ fs) [] zero e at stays = absurd cc
stays_at (f ∷ fs) [] (suc i) e at stays = absurd cc
stays_at (f ∷ fs) (true ∷ marks) zero e at stays = absurd cc
stays_at (f ∷ fs) (true ∷ marks) (suc i) e at stays = stays_at fs marks i e at stays
stays_at (f ∷ fs) (false ∷ marks) zero e at stays = at
stays_at (f ∷ fs) (false ∷ marks) (suc i) e at stays = stays_at fs marks i e at stays

-- where an entry that is left was
record WasAt (fs : List FlowEntry) (marks : List Bool) (k : ℕ) (e : FlowEntry) : Type 0 where
  place : ℕ
  there : slice_get fs place ≡ Some e
  left : place_left marks place ≡ k

was_at : (fs : List FlowEntry) (marks : List Bool) (k : ℕ) (e : FlowEntry) → slice_get (without_marked fs marks) k ≡ Some e → WasAt fs marks k e
unfolding place_left
was_at [] marks zero e at = absurd cc
was_at [] marks (suc k) e at = absurd cc
was_at (f ∷ fs) [] zero e at = absurd cc
was_at (f ∷ fs) [] (suc k) e at = absurd cc
was_at (f ∷ fs) (true ∷ marks) k e at = let w = was_at fs marks k e at in record { place = suc w.place; there = w.there; left = w.left }
was_at (f ∷ fs) (false ∷ marks) zero e at = record { place = 0; there = at; left = refl }
was_at (f ∷ fs) (false ∷ marks) (suc k) e at = let w = was_at fs marks k e at in record { place = suc w.place; there = w.there; left = ap suc w.left }

older_left : (marks : List Bool) (i j : ℕ) → i ≤ j → place_left marks i ≤ place_left marks j
unfolding place_left
older_left marks zero j le = omega arith
older_left marks (suc i) zero le = absurd (omega (arith, le))
older_left [] (suc i) (suc j) le = omega arith
older_left (true ∷ marks) (suc i) (suc j) le = older_left marks i j (omega (arith, le))
older_left (false ∷ marks) (suc i) (suc j) le = let h = older_left marks i j (omega (arith, le)) in omega (arith, h)

-- the winner without the marked entries, if it is not marked
abbrev left_winner : List Bool → Option ℕ → Option ℕ
left_winner marks None = None
left_winner marks (Some i) = Some (place_left marks i)

still_wins : (packet : Field → Option ℕ) (fs : List FlowEntry) (marks : List Bool) (w : Option ℕ) → IsWinner packet fs w → IsUnmarkedHit marks w → IsWinner packet (without_marked fs marks) (left_winner marks w)
still_wins packet fs marks None none stays = λ j f at. (let w = was_at fs marks j f at in none w.place f w.there)
still_wins packet fs marks (Some i) hit stays = record {
  entry = hit.entry;
  there = stays_at fs marks i hit.entry hit.there stays;
  matches = hit.matches;
  highest = λ j f at m. (let w = was_at fs marks j f at in hit.highest w.place f w.there m);
  oldest = λ j f at m level. (let w = was_at fs marks j f at in let le = older_left marks i w.place (hit.oldest w.place f w.there m level) in omega (arith, le, w.left));
}

-- two winners of which each is left say the same
same_hits : (fs gs : List FlowEntry) (first second : List Bool) → SameTables (without_marked fs first) (without_marked gs second) → (packet : Field → Option ℕ) (v w : Option ℕ) → IsWinner packet fs v → IsWinner packet gs w → IsUnmarkedHit first v → IsUnmarkedHit second w
    → left_winner first v ≡ left_winner second w → AreSameHits fs gs v w
same_hits fs gs first second same packet None None hit other stays remains e = tt
same_hits fs gs first second same packet None (Some j) hit other stays remains e = absurd cc
same_hits fs gs first second same packet (Some i) None hit other stays remains e = absurd cc
same_hits fs gs first second same packet (Some i) (Some j) hit other stays remains e =
    let h : Some (place_left first i) ≡ Some (place_left second j) = e in
    let places : place_left first i ≡ place_left second j = cc in
    let one : option_map says_of (slice_get (without_marked fs first) (place_left first i)) ≡ Some (says_of hit.entry) = ap (option_map says_of) (stays_at fs first i hit.entry hit.there stays) in
    let two : option_map says_of (slice_get (without_marked gs second) (place_left second j)) ≡ Some (says_of other.entry) = ap (option_map says_of) (stays_at gs second j other.entry other.there remains) in
    let both = same_at (without_marked fs first) (without_marked gs second) same (place_left first i) in
    let moved : option_map says_of (slice_get (without_marked gs second) (place_left first i)) ≡ option_map says_of (slice_get (without_marked gs second) (place_left second j)) = ap (λ k. option_map says_of (slice_get (without_marked gs second) k)) places in
    let all : Some (says_of hit.entry) ≡ Some (says_of other.entry) = sym one ∙ both ∙ moved ∙ two in
    record { first = hit.entry; first_there = hit.there; second = other.entry; second_there = other.there; same = cc }

-- IF NEITHER HITS A CHANGED ENTRY, both hit entries that say the same, or both miss.
pub unchanged_hits : (fs gs : List FlowEntry) (changed : Changed) → AreChanged fs gs changed → (packet : Field → Option ℕ) → IsUnmarkedHit changed.a.items (winner_place packet fs) → IsUnmarkedHit changed.b.items (winner_place packet gs) → AreSameHits fs gs (winner_place packet fs) (winner_place packet gs)
unchanged_hits fs gs changed are packet stays remains =
    let v = winner_place packet fs in
    let w = winner_place packet gs in
    let first = changed.a.items in
    let second = changed.b.items in
    let one = is_winner packet (without_marked fs first) (left_winner first v) (still_wins packet fs first v (winner_is packet fs) stays) in
    let two = is_winner packet (without_marked gs second) (left_winner second w) (still_wins packet gs second w (winner_is packet gs) remains) in
    same_hits fs gs first second are.others packet v w (winner_is packet fs) (winner_is packet gs) stays remains (sym one ∙ same_winner packet (without_marked fs first) (without_marked gs second) are.others ∙ two)
