-- Flows without conditions, and the entries of a table.
use Rattle.std.proofs.Common.{◌≡◌, ℕ, ◌<◌, ◌⊎◌, Bool, true, false, Some, List, [], refl, sym, ap, ◌∙◌, arith, inl, inr}
use Rattle.std.specs.Prelude.{slice_get}
use Rattle.of_oxm.{specs.declared.match_field.MatchField.MatchField, specs.Relations.matches_map, proofs.Related.and_true}
use Rattle.of_table.specs.Table.{FlowEntry}
use Rattle.of_check.specs.Verdicts as entries
use Rattle.of_check.{specs.Verdicts.IsPacket, specs.Verdicts.Packet, specs.Verdicts.fields_of, proofs.WinnerLemmas.wins_alone}
use Rattle.of_shadowing.specs.Shadows.{FlowCovers, FlowGoesBefore, FlowNeverWins, Takes, FlowTakesRegion, WinsIn, FlowWinsWith}
use Rattle.of_shadowing.specs.{declared.listed_flow.ListedFlow.ListedFlow, Plain.ArePlain, Worlds.World, Worlds.all_hold, Worlds.own_world, Worlds.says_word}
use Rattle.of_shadowing.proofs.WordLemmas.{both}

pub wins_nowhere : (flows : List ListedFlow) (k : ℕ) (by : List ℕ) → FlowNeverWins flows k by → (w : World) → IsPacket w.packet → ¬ (WinsIn flows k w)
wins_nowhere flows k by never w is wins =
    let taken = never.covered w is wins.takes in
    wins.first taken.0 (never.before taken.0 taken.1) taken.2

one_entry : (es : List FlowEntry) (j : ℕ) (a b : FlowEntry) → slice_get es j ≡ Some a → slice_get es j ≡ Some b → a ≡ b
one_entry es j a b at is = cc

-- no word has to hold
plain_holds : (holds : List ℕ → Bool) (f : ListedFlow) → f.words.items ≡ [] → all_hold holds f ≡ true
plain_holds holds f none = rw none refl

module _ (table : ℕ) (es : List FlowEntry) (flows : List ListedFlow) (are : ArePlain table es flows) where
  -- ---- from flows to entries

  entry_before : (j k : ℕ) → FlowGoesBefore flows j k → entries.GoesBefore es j k
  entry_before j k b =
      let x = are.entry j b.first b.first_there in
      let y = are.entry k b.second b.second_there in
      record {
        first = x.0;
        first_there = x.1;
        second = y.0;
        second_there = y.1;
        before = elim b.before.1 as (λ w. (y.0.flow.priority < x.0.flow.priority) ⊎ ((x.0.flow.priority ≡ y.0.flow.priority) × (j < k))) [
          | inl higher ↦ inl (omega (arith, higher, x.2.priority, y.2.priority))
          | inr older ↦ inr (sym x.2.priority ∙ (older.0 ∙ y.2.priority), older.1)
        ];
      }

  -- an entry matches the packet of a world that its flow takes
  entry_matches : (j : ℕ) (w : World) → Takes flows j w → entries.Matches es j w.packet
  entry_matches j w t =
      let x = are.entry j t.flow t.there in
      let h = and_true (matches_map t.flow.fields (fields_of w.packet)) (all_hold w.holds t.flow) t.takes in
      record { entry = x.0; there = x.1; matches = ap (λ (m : List MatchField). matches_map m (fields_of w.packet)) (sym x.2.fields) ∙ h.0 }

  -- ---- from entries to flows

  flow_before : (j k : ℕ) → entries.GoesBefore es j k → FlowGoesBefore flows j k
  flow_before j k b =
      let x = are.flow j b.first b.first_there in
      let y = are.flow k b.second b.second_there in
      record {
        first = x.0;
        first_there = x.1;
        second = y.0;
        second_there = y.1;
        before = (
          x.2.table_is ∙ sym y.2.table_is,
          elim b.before as (λ w. (y.0.priority < x.0.priority) ⊎ ((x.0.priority ≡ y.0.priority) × (j < k))) [
            | inl higher ↦ inl (omega (arith, higher, x.2.priority, y.2.priority))
            | inr older ↦ inr (x.2.priority ∙ (older.0 ∙ sym y.2.priority), older.1)
          ],
        );
      }

  flow_takes : (j : ℕ) (w : World) → entries.Matches es j w.packet → Takes flows j w
  flow_takes j w m =
      let x = are.flow j m.entry m.there in
      record { flow = x.0; there = x.1; takes = both _ _ (ap (λ (fs : List MatchField). matches_map fs (fields_of w.packet)) x.2.fields ∙ m.matches) (plain_holds w.holds x.0 x.2.words) }

  -- ---- verdicts

  some_world : Packet → World
  some_world p = record { packet = p; holds = λ text. false }

  shares_entry : (j k : ℕ) → FlowCovers flows j k ⊎ FlowTakesRegion flows j k → entries.Covers es j k ⊎ entries.TakesRegion es j k
  unfolding entry_before
  shares_entry j k (inl c) =
      let x = are.entry j c.before.first c.before.first_there in
      let y = are.entry k c.before.second c.before.second_there in
      inl (record { before = entry_before j k c.before; wider = rw (← x.2.fields, ← y.2.fields) c.wider })
  shares_entry j k (inr t) =
      let x = are.entry j t.before.first t.before.first_there in
      let y = are.entry k t.before.second t.before.second_there in
      inr (record { before = entry_before j k t.before; region = t.region; own = λ fields inside. rw (← y.2.fields) (t.own fields inside); taken = λ fields inside. rw (← x.2.fields) (t.taken fields inside) })

  shares_flow : (j k : ℕ) → entries.Covers es j k ⊎ entries.TakesRegion es j k → FlowCovers flows j k ⊎ FlowTakesRegion flows j k
  unfolding flow_before
  shares_flow j k (inl c) =
      let x = are.flow j c.before.first c.before.first_there in
      let y = are.flow k c.before.second c.before.second_there in
      inl (record { before = flow_before j k c.before; words = plain_holds (says_word y.0) x.0 x.2.words; wider = rw (x.2.fields, y.2.fields) c.wider })
  shares_flow j k (inr t) =
      let x = are.flow j t.before.first t.before.first_there in
      let y = are.flow k t.before.second t.before.second_there in
      inr (record { before = flow_before j k t.before; words = plain_holds (says_word y.0) x.0 x.2.words; region = t.region; own = λ fields inside. rw y.2.fields (t.own fields inside); taken = λ fields inside. rw x.2.fields (t.taken fields inside) })

  pub never_entry : (k : ℕ) (by : List ℕ) → FlowNeverWins flows k by → entries.NeverWins es k by
  unfolding some_world
  never_entry k by never = record {
    before = λ j c. entry_before j k (never.before j c);
    shares = λ j c. shares_entry j k (never.shares j c);
    covered = λ p is m. (let t = never.covered (some_world p) is (flow_takes k (some_world p) m) in (t.0, t.1, entry_matches t.0 (some_world p) t.2));
    by_age = never.by_age;
  }

  pub never_flow : (k : ℕ) (by : List ℕ) → entries.NeverWins es k by → FlowNeverWins flows k by
  never_flow k by never = record {
    before = λ j c. flow_before j k (never.before j c);
    shares = λ j c. shares_flow j k (never.shares j c);
    covered = λ w is t. (let m = never.covered w.packet is (entry_matches k w t) in (m.0, m.1, flow_takes m.0 w m.2));
    by_age = never.by_age;
  }

  pub wins_entry : (k : ℕ) (p : Packet) → FlowWinsWith flows k p → entries.WinsWith es k p
  wins_entry k p wins =
      let w : World = own_world wins.own p in
      let m = entry_matches k w wins.wins.takes in
      record {
        packet = wins.packet;
        short = wins.short;
        ingress = wins.ingress;
        wins = wins_alone es (fields_of p) k m.entry m.there m.matches (none_matches w refl);
      }
    where
      none_matches : (w : World) → w ≡ own_world wins.own p → (j : ℕ) (b : entries.GoesBefore es j k) → matches_map b.first.flow.fields (fields_of p) ≡ false
      none_matches w e j b = by_test (matches_map b.first.flow.fields (fields_of p)) refl
        where
          by_test : (t : Bool) → matches_map b.first.flow.fields (fields_of p) ≡ t → matches_map b.first.flow.fields (fields_of p) ≡ false
          by_test false t = t
          by_test true t = absurd (wins.wins.first j (flow_before j k b) (flow_takes j (own_world wins.own p) (record { entry = b.first; there = b.first_there; matches = t })))
