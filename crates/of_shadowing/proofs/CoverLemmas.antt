-- Flows that one flow covers.
use Rattle.std.proofs.Common.{◌≡◌, ℕ, true, false, Option, Some, None, List, [], ◌∷◌, refl, sym, ap, subst, ◌∙◌, arith, inl, inr}
use Rattle.std.specs.{Prelude.IfSome, Prelude.slice_get, List.All, List.Contains, Option.option_map}
use Rattle.of_layers.specs.declared.field.Field.{Field}
use Rattle.of_headers.specs.FieldMap.{seen}
use Rattle.of_oxm.specs.{declared.match_field.MatchField.MatchField, Masks.first_at, Masks.value_of, NormalForm.IsKept, NormalForm.IsMatch}
use Rattle.of_oxm.specs.Relations.{bits_looked_at, covers_match, matches_map, overlaps_match}
use Rattle.of_oxm.proofs.{Joined.covered as covered_value, Joined.found_if, Related.and_true, Related.covered_matched, Related.matched_overlap, Seen.seen_matched}
use Rattle.of_regions.{specs.declared.rival.Rival.Rival, proofs.NamingLemmas.first_or_behind}
use Rattle.of_check.specs.Verdicts.{IsPacket, fields_of}
use Rattle.of_shadowing.specs.Shadows.{AreFlowRivals, FlowCovers, FlowGoesBefore, FlowNeverWins, SomeTakes, Takes, is_covering_flow}
use Rattle.of_shadowing.{specs.declared.listed_flow.ListedFlow.ListedFlow, specs.Worlds.World, specs.Worlds.all_hold, specs.Worlds.says_word, specs.Worlds.takes_world, proofs.RivalLemmas.one_flow}
use Rattle.of_shadowing.proofs.WordLemmas.{both, hold_among}

module _ (covered : (d m : List MatchField) (map : Field → Option ℕ) → covers_match d m ≡ true → matches_map m map ≡ true → matches_map d map ≡ true) where
  -- the flow at k never wins
  pub cover_takes : (flows : List ListedFlow) (j k : ℕ) → FlowCovers flows j k → FlowNeverWins flows k (j ∷ [])
  cover_takes flows j k c = record {
    before = λ i h. subst (λ x. FlowGoesBefore flows x k) (only_one i h) c.before;
    shares = λ i h. inl (subst (λ x. FlowCovers flows x k) (only_one i h) c);
    covered = taken;
    by_age = (tt, tt);
  }
    where
      only_one : (i : ℕ) → Contains (j ∷ []) i → j ≡ i
      only_one i h = elim (first_or_behind j i [] h) as (λ w. j ≡ i) [ inl old ↦ absurd (omega (arith, old.1)) | inr e ↦ e ]

      taken : (w : World) → IsPacket w.packet → Takes flows k w → SomeTakes flows (j ∷ []) w
      taken w is m =
          let first = c.before.first in
          let second = c.before.second in
          let same : m.flow ≡ second = one_flow flows k m.flow second m.there c.before.second_there in
          let so : takes_world second w ≡ true = ap (λ (x : ListedFlow). takes_world x w) (sym same) ∙ m.takes in
          let h = and_true (matches_map second.fields (fields_of w.packet)) (all_hold w.holds second) so in
          (j, (0, omega arith, refl), record { flow = first; there = c.before.first_there; takes = both _ _ (covered first.fields second.fields (fields_of w.packet) c.wider h.0) (hold_among w.holds second first c.words h.1) })

-- ---- what covers a match overlaps it

own_seen : (f : Field) (o : Option MatchField) → IfSome o (λ y. IsKept y × (y.field ≡ f)) → seen (option_map bits_looked_at o) (option_map (λ (y : MatchField). y.value) o) ≡ option_map (λ (y : MatchField). y.value) o
own_seen f None h = refl
own_seen f (Some y) h = ap Some (covered_value y h.0)

covering_overlaps : (d m : List MatchField) → IsMatch m → covers_match d m ≡ true → overlaps_match d m ≡ true
covering_overlaps d m fine covers =
    let own : matches_map m (value_of m) ≡ true = seen_matched m (value_of m) fine (λ f. own_seen f (first_at m f) (found_if m f (first_at m f) fine.each refl)) in
    matched_overlap d m (value_of m) (covered_matched d m (value_of m) covers own) own

-- ---- none covers

-- the flow at k does not cover itself from a place that has no flow
pub none_absent : (flows : List ListedFlow) (k : ℕ) → slice_get flows k ≡ None → (j : ℕ) → ¬ (FlowCovers flows j k)
none_absent flows k none j c = let there = c.before.second_there in absurd cc

module _ (flows : List ListedFlow) (k : ℕ) (own : ListedFlow) (own_there : slice_get flows k ≡ Some own) where
  pub rival_covers : (j : ℕ) (b : FlowGoesBefore flows j k) → all_hold (says_word own) b.first ≡ true → is_covering_flow (slice_get flows j) own.fields ≡ true → FlowCovers flows j k
  rival_covers j b words covering =
      let second : own ≡ b.second = one_flow flows k own b.second own_there b.second_there in
      let wide : covers_match b.first.fields own.fields ≡ true = ap (λ (f : Option ListedFlow). is_covering_flow f own.fields) (sym b.first_there) ∙ covering in
      record {
        before = b;
        words = subst (λ (x : ListedFlow). all_hold (says_word x) b.first ≡ true) second words;
        wider = subst (λ (x : ListedFlow). covers_match b.first.fields x.fields ≡ true) second wide;
      }

  module _ (j : ℕ) (c : FlowCovers flows j k) where
    second_own : c.before.second ≡ own
    second_own = one_flow flows k c.before.second own c.before.second_there own_there

    covering_own : covers_match c.before.first.fields own.fields ≡ true
    covering_own = subst (λ (x : ListedFlow). covers_match c.before.first.fields x.fields ≡ true) second_own c.wider

    words_own : all_hold (says_word own) c.before.first ≡ true
    words_own = subst (λ (x : ListedFlow). all_hold (says_word x) c.before.first ≡ true) second_own c.words

  pub none_covers : (rivals : List Rival) → IsMatch own.fields → AreFlowRivals flows k own rivals → All (λ (r : Rival). is_covering_flow (slice_get flows r.name) own.fields ≡ false) rivals → (j : ℕ) → ¬ (FlowCovers flows j k)
  none_covers rivals fine are none j c = elim (are.all j c.before (words_own j c)) as (λ w. ⊥) [
    | inl kept ↦ (
        let q = kept.0 in
        let there = kept.1 in
        let not_so : is_covering_flow (slice_get flows q.name) own.fields ≡ false = subst (λ (r : Rival). is_covering_flow (slice_get flows r.name) own.fields ≡ false) there.2 (none there.0 q there.1) in
        let at_j : is_covering_flow (slice_get flows j) own.fields ≡ false = subst (λ (n : ℕ). is_covering_flow (slice_get flows n) own.fields ≡ false) kept.2 not_so in
        let so : is_covering_flow (slice_get flows j) own.fields ≡ true = ap (λ (f : Option ListedFlow). is_covering_flow f own.fields) c.before.first_there ∙ covering_own j c in
        absurd cc)
    | inr apart ↦ (
        let overlap : overlaps_match c.before.first.fields own.fields ≡ true = covering_overlaps c.before.first.fields own.fields fine (covering_own j c) in
        absurd cc)
  ]
