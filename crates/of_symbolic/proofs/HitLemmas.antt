-- The entry that a packet hits, by what the entries ask of the frame that came in.
use Rattle.std.proofs.Common.{◌≡◌, ◌⊎◌, ◌<◌, ◌≤◌, ◌+◌, ℕ, zero, suc, Bool, true, false, List, [], ◌∷◌, length, Option, Some, None, refl, sym, ap, subst, ◌∙◌, arith, inl, inr}
use Rattle.std.{specs.Prelude.slice_get, specs.Global.Vec, proofs.lemmas.Bool.cases_lt, proofs.lemmas.Option.slice_get_cases, proofs.lemmas.Option.slice_get_past}
use Rattle.of_layers.specs.declared.field.Field.{Field}
use Rattle.of_oxm.specs.{declared.match_field.MatchField.MatchField, Relations.matches_map}
use Rattle.of_rewrite.specs.{Frames.IsFrame, Views.view_of}
use Rattle.of_actions.specs.declared.action.Action.{Action}
use Rattle.of_classifier.specs.{declared.Row.Row, Rows.made_row, Winner.NoneMatches, Winner.Wins, Winner.winner_number, Winner.winner_of}
use Rattle.of_classifier.proofs.WinnerLaw.{none_both, wins_both}
use Rattle.of_table.specs.Table.{FlowEntry, rows_from, winner_place}
use Rattle.of_symbolic.specs.Branching.{ArePulledEntries, IsHitAt, IsHitOrMiss, IsPulledEntry, NoEntryAhead, is_agreed, pulled_of}
use Rattle.of_symbolic.specs.{declared.branching.Branch.Branch, declared.overlay.Overlay.Overlay, declared.part.Part.Part, declared.pulled_entry.PulledEntry.PulledEntry, Actions.AreRewriting}
use Rattle.of_symbolic.specs.{Branches.AreBranches, Branches.rewritten_fields, Overlays.IsOverlay, InnerTags.description_of, InnerTags.inner_told, Pulling.IsPulled}
use Rattle.of_symbolic.proofs.{BranchLemmas.AreHitBranches, Lookups.never_of_frames, Lookups.when_of_frames, PartLemmas.some_tagging}

-- ---- rows of a classifier and entries that were pulled

-- a row and an entry: the row matches the packet if the frame that came in agrees
record IsRowOf (packet received : Field → Option ℕ) (number : ℕ) (r : Row) (p : PulledEntry) : Type 0 where
  number_is : r.number ≡ number
  priority : r.priority ≡ p.priority
  matches : matches_map r.fields packet ≡ is_agreed p.fields received

-- at each place
record AreRowsOf (packet received : Field → Option ℕ) (n : ℕ) (rows : List Row) (entries : List PulledEntry) : Type 0 where
  entry : (k : ℕ) (r : Row) → slice_get rows k ≡ Some r → (p : PulledEntry) × (slice_get entries k ≡ Some p) × IsRowOf packet received (n + k) r p
  row : (k : ℕ) (p : PulledEntry) → slice_get entries k ≡ Some p → (r : Row) × (slice_get rows k ≡ Some r) × IsRowOf packet received (n + k) r p

-- an element has a place in its list
within : {X : Type 0} (xs : List X) (k : ℕ) (x : X) → slice_get xs k ≡ Some x → k < length xs
within xs k x at = elim (slice_get_cases xs k).1 as (λ w. k < length xs) [
  | inl some ↦ some.1
  | inr past ↦ (let none : Some x ≡ None = sym at ∙ slice_get_past xs k past.0 in absurd cc)
]

rows_more : (packet received : Field → Option ℕ) (n : ℕ) (r : Row) (p : PulledEntry) (rows : List Row) (entries : List PulledEntry) → IsRowOf packet received n r p → AreRowsOf packet received (suc n) rows entries → AreRowsOf packet received n (r ∷ rows) (p ∷ entries)
rows_more packet received n r p rows entries own behind = record { entry = entry; row = row }
  where
    entry : (k : ℕ) (x : Row) → slice_get (r ∷ rows) k ≡ Some x → (q : PulledEntry) × (slice_get (p ∷ entries) k ≡ Some q) × IsRowOf packet received (n + k) x q
    entry zero x at =
        let here : IsRowOf packet received (n + 0) r p = subst (λ (i : ℕ). IsRowOf packet received i r p) (omega arith) own in
        (p, refl, subst (λ (y : Row). IsRowOf packet received (n + 0) y p) (let same : r ≡ x = cc in same) here)
    entry (suc k) x at = let q = behind.entry k x at in (q.0, q.1, subst (λ (i : ℕ). IsRowOf packet received i x q.0) (omega arith) q.2)

    row : (k : ℕ) (q : PulledEntry) → slice_get (p ∷ entries) k ≡ Some q → (x : Row) × (slice_get (r ∷ rows) k ≡ Some x) × IsRowOf packet received (n + k) x q
    row zero q at =
        let here : IsRowOf packet received (n + 0) r p = subst (λ (i : ℕ). IsRowOf packet received i r p) (omega arith) own in
        (r, refl, subst (IsRowOf packet received (n + 0) r) (let same : p ≡ q = cc in same) here)
    row (suc k) q at = let x = behind.row k q at in (x.0, x.1, subst (λ (i : ℕ). IsRowOf packet received i x.0 q) (omega arith) x.2)

-- ---- the winner

module _ (packet received : Field → Option ℕ) (rows : List Row) (entries : List PulledEntry) (are : AreRowsOf packet received 0 rows entries) where
  no_row : NoEntryAhead entries None received → NoneMatches rows packet
  no_row none k r at =
      let p = are.entry k r at in
      p.2.matches ∙ none k p.0 (within entries k p.0 p.1) p.1 tt

  no_entry : NoneMatches rows packet → NoEntryAhead entries None received
  no_entry none k p lt at ahead = let r = are.row k p at in sym r.2.matches ∙ none k r.0 r.1

  hit_wins : (k : ℕ) → IsHitAt entries k received → winner_number (winner_of rows packet) ≡ Some k
  hit_wins k hit =
      let r = are.row k hit.entry hit.there in
      let wins : Wins rows packet k r.0 = record { stands = r.1; matches = r.2.matches ∙ hit.matches; highest = highest r.0 r.2.priority; oldest = oldest r.0 r.2.priority } in
      ap winner_number ((wins_both rows packet r.0).1 (k, wins)) ∙ ap Some (r.2.number_is ∙ omega arith)
    where
      ahead_none : (j : ℕ) (s : Row) → slice_get rows j ≡ Some s → matches_map s.fields packet ≡ true → ((hit.entry.priority < s.priority) ⊎ ((s.priority ≡ hit.entry.priority) × (j < k))) → ⊥
      ahead_none j s at is ahead =
          let q = are.entry j s at in
          let no = hit.first j q.0 (within entries j q.0 q.1) q.1 (subst (λ (n : ℕ). (hit.entry.priority < n) ⊎ ((n ≡ hit.entry.priority) × (j < k))) q.2.priority ahead) in
          absurd (let g : true ≡ false = sym is ∙ q.2.matches ∙ no in cc)

      highest : (r : Row) → r.priority ≡ hit.entry.priority → (j : ℕ) (s : Row) → slice_get rows j ≡ Some s → matches_map s.fields packet ≡ true → s.priority ≤ r.priority
      highest r same j s at is = elim (cases_lt hit.entry.priority s.priority) as (λ w. s.priority ≤ r.priority) [
        | inl lt ↦ absurd (ahead_none j s at is (inl lt))
        | inr le ↦ omega (arith, le, same)
      ]

      oldest : (r : Row) → r.priority ≡ hit.entry.priority → (j : ℕ) (s : Row) → slice_get rows j ≡ Some s → matches_map s.fields packet ≡ true → s.priority ≡ r.priority → k ≤ j
      oldest r same j s at is level = elim (cases_lt j k) as (λ w. k ≤ j) [
        | inl lt ↦ absurd (ahead_none j s at is (inr (level ∙ same, lt)))
        | inr le ↦ le
      ]

  wins_hit : (place : ℕ) (r : Row) → Wins rows packet place r → (k : ℕ) → r.number ≡ k → IsHitAt entries k received
  wins_hit place r wins k number =
      let p = are.entry place r wins.stands in
      let is : place ≡ k = omega (arith, p.2.number_is, number) in
      subst (λ (n : ℕ). IsHitAt entries n received) is (record { entry = p.0; there = p.1; matches = sym p.2.matches ∙ wins.matches; first = first p.0 p.2.priority })
    where
      first : (p : PulledEntry) → r.priority ≡ p.priority → NoEntryAhead entries (Some (record { priority = p.priority; place = place })) received
      first p same j q lt at ahead =
          let s = are.row j q at in
          by_test s.0 s.1 s.2.priority (matches_map s.0.fields packet) refl (sym s.2.matches)
        where
          by_test : (s : Row) → slice_get rows j ≡ Some s → s.priority ≡ q.priority → (b : Bool) → matches_map s.fields packet ≡ b → is_agreed q.fields received ≡ matches_map s.fields packet → is_agreed q.fields received ≡ false
          by_test s there level false is agreed = agreed ∙ is
          by_test s there level true is agreed = elim ahead as (λ w. is_agreed q.fields received ≡ false) [
            | inl higher ↦ (let most = wins.highest j s there is in absurd (omega (arith, higher, most, level, same)))
            | inr older ↦ (let before = wins.oldest j s there is (level ∙ older.0 ∙ sym same) in absurd (omega (arith, before, older.1)))
          ]

  -- what wins is hit
  found_hit : (found : Option Row) → winner_of rows packet ≡ found → IsHitOrMiss entries (winner_number found) received
  found_hit None is = no_entry ((none_both rows packet).0 is)
  found_hit (Some r) is = let w = (wins_both rows packet r).0 is in wins_hit w.0 r w.1 r.number refl

  -- and what is hit wins
  hit_found : (w : Option ℕ) → IsHitOrMiss entries w received → winner_number (winner_of rows packet) ≡ w
  hit_found None none = ap winner_number ((none_both rows packet).1 (no_row none))
  hit_found (Some k) hit = hit_wins k hit

-- ---- a packet

module _ (o : Overlay) (l : List Action) (metadata : ℕ) (over : IsOverlay o l) (rewriting : AreRewriting l) (frame : List ℕ) (port : ℕ) (is_frame : IsFrame frame) where
  agreed : (m : List MatchField) (fields : Option (Vec MatchField)) → IsPulled o.inner l metadata m (pulled_of fields) → matches_map m (rewritten_fields l metadata frame port) ≡ is_agreed fields (description_of o.inner frame port)
  agreed m None is = never_of_frames o.inner l metadata m is rewriting frame port is_frame
  agreed m (Some fields) is = when_of_frames o.inner l metadata m fields is rewriting frame port is_frame

  row_of : (n : ℕ) (e : FlowEntry) (p : PulledEntry) → IsPulledEntry o metadata e p → IsRowOf (rewritten_fields l metadata frame port) (description_of o.inner frame port) n (made_row n e.flow.priority e.flow.fields) p
  row_of n e p is = record { number_is = refl; priority = sym is.priority; matches = agreed e.flow.fields p.fields (is.is l over) }

  rows_pulled : (n : ℕ) (flows : List FlowEntry) (entries : List PulledEntry) → ArePulledEntries o metadata flows entries → AreRowsOf (rewritten_fields l metadata frame port) (description_of o.inner frame port) n (rows_from n flows) entries
  rows_pulled n [] [] are = record { entry = λ k r at. absurd cc; row = λ k p at. absurd cc }
  rows_pulled n [] (p ∷ entries) are = absurd are
  rows_pulled n (e ∷ flows) [] are = absurd are
  rows_pulled n (e ∷ flows) (p ∷ entries) are =
      rows_more (rewritten_fields l metadata frame port) (description_of o.inner frame port) n (made_row n e.flow.priority e.flow.fields) p (rows_from (suc n) flows) entries (row_of n e p are.0) (rows_pulled (suc n) flows entries are.1)

  module _ (flows : List FlowEntry) (entries : List PulledEntry) (are : ArePulledEntries o metadata flows entries) where
    pub wins_by_hit : (w : Option ℕ) → IsHitOrMiss entries w (description_of o.inner frame port) → winner_place (rewritten_fields l metadata frame port) flows ≡ w
    wins_by_hit = hit_found (rewritten_fields l metadata frame port) (description_of o.inner frame port) (rows_from 0 flows) entries (rows_pulled 0 flows entries are)

    pub winner_is_hit : IsHitOrMiss entries (winner_place (rewritten_fields l metadata frame port) flows) (description_of o.inner frame port)
    winner_is_hit = found_hit (rewritten_fields l metadata frame port) (description_of o.inner frame port) (rows_from 0 flows) entries (rows_pulled 0 flows entries are) (winner_of (rows_from 0 flows) (rewritten_fields l metadata frame port)) refl

-- ---- branches

pub branches_are : (o : Overlay) (metadata : ℕ) (flows : List FlowEntry) (entries : List PulledEntry) (part : Part) (branches : List Branch) → ArePulledEntries o metadata flows entries → AreHitBranches part entries branches
    → (l : List Action) → IsOverlay o l → AreRewriting l → AreBranches o.inner flows l metadata part branches
branches_are o metadata flows entries part branches pulled are l over rewriting = record {
  within = λ b c fields h. ((are.each b c).within fields h).0;
  wins = λ b c frame port is h. wins_by_hit o l metadata over rewriting frame port is flows entries pulled b.entry ((are.each b c).within (description_of o.inner frame port) h).1;
  once = are.once;
  all = λ frame port is h. are.all (winner_place (rewritten_fields l metadata frame port) flows) (description_of o.inner frame port) (some_tagging frame port (inner_told o.inner (view_of frame).tags) is) h (winner_is_hit o l metadata over rewriting frame port is flows entries pulled);
}
