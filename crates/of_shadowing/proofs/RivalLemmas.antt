-- The flows that go before one, and what a search among them says.
use Rattle.std.proofs.Common.{◌≡◌, ℕ, ◌+◌, ◌<◌, ◌≤◌, ◌⊎◌, ◌^◌, true, false, Option, Some, None, List, [], ◌∷◌, ◌++◌, length, sym, ap, subst, ◌∙◌, arith, inl, inr, below_more}
use Rattle.std.specs.{Prelude.slice_get, List.AllByRecursion, List.Contains}
use Rattle.std.proofs.{lemmas.List.Elements.Contains-append_left, lemmas.List.Elements.Contains-push, lemmas.List.Elements.Contains-push_cases, lemmas.Bool.cases_lt, lemmas.Option.slice_get_past}
use Rattle.of_layers.specs.{declared.field.Field.Field, Reading.layers_of}
use Rattle.of_oxm.specs.{declared.match_field.MatchField.MatchField, NormalForm.IsKept, NormalForm.IsMatch, Relations.matches_map, Relations.overlaps_match}
use Rattle.of_oxm.proofs.Related.{and_true}
use Rattle.of_frames.{specs.Rules.shape_of, specs.Rules.tagging_of, proofs.Shapes.shaped, proofs.Shapes.tags_seen}
use Rattle.of_regions.specs.{declared.rival.Rival.Rival, declared.witness.Packet.Packet as PacketFound, declared.region.Region.Region, Conditions.AreConditions}
use Rattle.of_regions.{specs.Searching.AreTaking, specs.Searching.IsFreePacket, specs.Searching.IsStart, specs.Witness.IsIngressPort, specs.Witness.fields_in, proofs.NarrowingLemmas.kept_condition}
use Rattle.of_check.specs.Verdicts.{IsPacket, Packet, fields_of}
use Rattle.of_shadowing.specs.Worlds.{World, all_hold, own_world, says_word, takes_world}
use Rattle.of_shadowing.specs.Shadows.{AreFlowRivals, FlowGoesBefore, FlowNeverWins, Precedes, SomeTakes, Takes, FlowTakesRegion, FlowWinsWith}
use Rattle.of_shadowing.{specs.declared.listed_flow.ListedFlow.ListedFlow, proofs.WordLemmas.both, proofs.WordLemmas.hold_among, proofs.WordLemmas.says_own}

pub one_flow : (flows : List ListedFlow) (j : ℕ) (a b : ListedFlow) → slice_get flows j ≡ Some a → slice_get flows j ≡ Some b → a ≡ b
one_flow flows j a b at is = cc

same_first : (flows : List ListedFlow) (i j k : ℕ) (a : FlowGoesBefore flows i k) (b : FlowGoesBefore flows j k) → i ≡ j → a.first ≡ b.first
same_first flows i j k a b e = one_flow flows j a.first b.first (ap (slice_get flows) (sym e) ∙ a.first_there) b.first_there

-- the fields of a match are conditions
match_conditions : (m : List MatchField) → AllByRecursion IsKept m → AreConditions m
match_conditions [] all = tt
match_conditions (e ∷ m) all = (kept_condition e all.0, match_conditions m all.1)

abbrev IsRival : List ListedFlow → ℕ → ListedFlow → Rival → Type 0
IsRival flows k own q = (b : FlowGoesBefore flows q.name k) × (q.fields.now ≡ b.first.fields) × (all_hold (says_word own) b.first ≡ true)

-- the one at a place is a rival, or no packet has both matches
abbrev IsKeptOrApart : List ListedFlow → ℕ → ListedFlow → List Rival → ℕ → Type 0
IsKeptOrApart flows k own rivals j = (b : FlowGoesBefore flows j k) → all_hold (says_word own) b.first ≡ true → ((q : Rival) × Contains rivals q × (q.name ≡ j)) ⊎ (overlaps_match b.first.fields own.fields ≡ false)

-- of the flows before a place
pub record AreRivalsBelow (flows : List ListedFlow) (k : ℕ) (own : ListedFlow) (rivals : List Rival) (n : ℕ) : Type 0 where
  pub each : (q : Rival) → Contains rivals q → IsRival flows k own q
  pub conditions : (q : Rival) → Contains rivals q → AreConditions q.fields.now
  pub all : (j : ℕ) → j < n → IsKeptOrApart flows k own rivals j

module _ (flows : List ListedFlow) (k : ℕ) (own : ListedFlow) (own_there : slice_get flows k ≡ Some own) where
  pub none_kept : AreRivalsBelow flows k own [] 0
  none_kept = record { each = λ q c. absurd (omega (arith, c.1)); conditions = λ q c. absurd (omega (arith, c.1)); all = λ j lt. absurd (omega (arith, lt)) }

  module _ (rivals : List Rival) (at : ℕ) (so_far : AreRivalsBelow flows k own rivals at) (other : ListedFlow) (there : slice_get flows at ≡ Some other) where
    pub one_kept : (r : Rival) → r.name ≡ at → r.fields.now ≡ other.fields → Precedes other at own k → all_hold (says_word own) other ≡ true → IsMatch other.fields → AreRivalsBelow flows k own (rivals ++ r ∷ []) (at + 1)
    one_kept r name fields before words is_match = record {
      conditions = λ q c. elim (Contains-push_cases rivals r q c) as (λ w. AreConditions q.fields.now) [
        | inl old ↦ so_far.conditions q old
        | inr same ↦ subst (λ (y : Rival). AreConditions y.fields.now) same (subst AreConditions (sym fields) (match_conditions other.fields is_match.each))
      ];
      each = λ q c. elim (Contains-push_cases rivals r q c) as (λ w. IsRival flows k own q) [
        | inl old ↦ so_far.each q old
        | inr same ↦ subst (IsRival flows k own) same this
      ];
      all = below_more (IsKeptOrApart flows k own (rivals ++ r ∷ [])) at
          (λ j lt b w. elim (so_far.all j lt b w) as (λ v. ((q : Rival) × Contains (rivals ++ r ∷ []) q × (q.name ≡ j)) ⊎ (overlaps_match b.first.fields own.fields ≡ false)) [
            | inl kept ↦ inl (kept.0, Contains-append_left rivals (r ∷ []) kept.0 kept.1, kept.2)
            | inr apart ↦ inr apart
          ])
          (λ b w. inl (r, Contains-push rivals r, name));
    }
      where
        this : IsRival flows k own r
        this = subst (λ (n : ℕ). (b : FlowGoesBefore flows n k) × (r.fields.now ≡ b.first.fields) × (all_hold (says_word own) b.first ≡ true)) (sym name)
            (record { first = other; first_there = there; second = own; second_there = own_there; before = before }, fields, words)

    pub one_passed : (Precedes other at own k → all_hold (says_word own) other ≡ true → overlaps_match other.fields own.fields ≡ false) → AreRivalsBelow flows k own rivals (at + 1)
    one_passed apart = record {
      each = so_far.each;
      conditions = so_far.conditions;
      all = below_more (IsKeptOrApart flows k own rivals) at so_far.all (λ b w. inr (left_out b w));
    }
      where
        left_out : (b : FlowGoesBefore flows at k) → all_hold (says_word own) b.first ≡ true → overlaps_match b.first.fields own.fields ≡ false
        left_out b w =
            let first : b.first ≡ other = one_flow flows at b.first other b.first_there there in
            let second : b.second ≡ own = one_flow flows k b.second own b.second_there own_there in
            let before : Precedes other at own k = subst (λ (x : ListedFlow). Precedes x at own k) first (subst (λ (y : ListedFlow). Precedes b.first at y k) second b.before) in
            ap (λ (x : ListedFlow). overlaps_match x.fields own.fields) first ∙ apart before (ap (all_hold (says_word own)) (sym first) ∙ w)

  pub all_kept : (rivals : List Rival) (n : ℕ) → AreRivalsBelow flows k own rivals n → length flows ≤ n → AreFlowRivals flows k own rivals
  all_kept rivals n r len = record {
    each = r.each;
    conditions = r.conditions;
    all = λ j b w. elim (cases_lt j n) as (λ v. ((q : Rival) × Contains rivals q × (q.name ≡ j)) ⊎ (overlaps_match b.first.fields own.fields ≡ false)) [
      | inl lt ↦ r.all j lt b w
      | inr le ↦ (let past : Some b.first ≡ None = sym b.first_there ∙ slice_get_past flows j (omega (arith, len, le)) in absurd cc)
    ];
  }

  -- ---- what a search says

  module _ (overlap : (m n : List MatchField) (map : Field → Option ℕ) → matches_map m map ≡ true → matches_map n map ≡ true → overlaps_match m n ≡ true) (rivals : List Rival) (are : AreFlowRivals flows k own rivals) where
    -- no flow that goes before takes the packet, if only the words of the flow hold
    none_first : (map : Field → Option ℕ) → matches_map own.fields map ≡ true → ((q : Rival) → Contains rivals q → matches_map q.fields.now map ≡ false) → (j : ℕ) (b : FlowGoesBefore flows j k) → all_hold (says_word own) b.first ≡ true → matches_map b.first.fields map ≡ true → ⊥
    none_first map m free j b w matched = elim (are.all j b w) as (λ v. ⊥) [
      | inl kept ↦ (
          let r = are.each kept.0 kept.1 in
          let first : r.0.first ≡ b.first = same_first flows kept.0.name j k r.0 b kept.2 in
          let no : matches_map b.first.fields map ≡ false = ap (λ (y : ListedFlow). matches_map y.fields map) (sym first) ∙ ap (λ fields. matches_map fields map) (sym r.1) ∙ free kept.0 kept.1 in
          absurd cc)
      | inr apart ↦ (let yes : overlaps_match b.first.fields own.fields ≡ true = overlap b.first.fields own.fields map matched m in absurd cc)
    ]

    small_port : (port : ℕ) → IsIngressPort port → port < 2 ^ 32
    small_port port (inl h) = omega (arith, h.1)
    small_port port (inr e) = omega (arith, e)

    module _ (start : List Region) (begins : IsStart own.fields start) where
      module _ (p : PacketFound) (f : IsFreePacket start rivals p) where
        abbrev packet : Packet
        packet = record { frame = p.frame.items; in_port = p.in_port; metadata = p.metadata }

        matched : matches_map own.fields (fields_of packet) ≡ true
        matched = begins.matched f.within.0 f.within.1 (fields_in p) f.within.2

        none_goes_first : (j : ℕ) → FlowGoesBefore flows j k → ¬ (Takes flows j (own_world own packet))
        none_goes_first j b t =
            let same : t.flow ≡ b.first = one_flow flows j t.flow b.first t.there b.first_there in
            let taken : takes_world b.first (own_world own packet) ≡ true = ap (λ (x : ListedFlow). takes_world x (own_world own packet)) (sym same) ∙ t.takes in
            let h = and_true (matches_map b.first.fields (fields_of packet)) (all_hold (says_word own) b.first) taken in
            none_first (fields_of packet) matched f.unrivalled j b h.1 h.0

        pub free_wins : FlowWinsWith flows k packet
        free_wins = record {
          packet = record { bytes = f.received.frame_is.1; long = f.received.frame_is.0; port_fits = small_port p.in_port f.received.ingress; metadata_fits = f.received.metadata_fits };
          short = f.received.short;
          ingress = f.received.ingress;
          own = own;
          there = own_there;
          wins = record {
            takes = record { flow = own; there = own_there; takes = both _ _ matched (says_own own) };
            first = none_goes_first;
          };
        }

      module _ (names : List ℕ) (t : AreTaking start rivals names) where
        covered : (w : World) → IsPacket w.packet → Takes flows k w → SomeTakes flows names w
        covered w is m =
            let same : m.flow ≡ own = one_flow flows k m.flow own m.there own_there in
            let taken : takes_world own w ≡ true = ap (λ (x : ListedFlow). takes_world x w) (sym same) ∙ m.takes in
            let h = and_true (matches_map own.fields (fields_of w.packet)) (all_hold w.holds own) taken in
            let p = w.packet in
            let q = t.covered p.frame p.in_port p.metadata (is.long, is.bytes) (begins.all (shape_of (layers_of p.frame).body) (tagging_of (layers_of p.frame).tags) (fields_of p) (shaped p.frame p.in_port p.metadata is.bytes is.long) (tags_seen p.frame p.in_port p.metadata is.bytes is.long) h.0) in
            let r = are.each q.0 q.1 in
            let matches : matches_map r.0.first.fields (fields_of p) ≡ true = ap (λ fields. matches_map fields (fields_of p)) (sym r.1) ∙ q.3 in
            (q.0.name, q.2, record { flow = r.0.first; there = r.0.first_there; takes = both _ _ matches (hold_among w.holds own r.0.first r.2 h.1) })

        pub taking_never : FlowNeverWins flows k names
        taking_never = record {
          before = λ j c. (let q = t.named j c in subst (λ (n : ℕ). FlowGoesBefore flows n k) q.2 (are.each q.0 q.1).0);
          shares = λ j c.
              let q = t.named j c in
              let r = are.each q.0 q.1 in
              let second : r.0.second ≡ own = one_flow flows k r.0.second own r.0.second_there own_there in
              inr (subst (λ (n : ℕ). FlowTakesRegion flows n k) q.2 (record {
                before = r.0;
                words = ap (λ (x : ListedFlow). all_hold (says_word x) r.0.first) second ∙ r.2;
                region = q.3.region;
                own = λ fields inside. (let m = q.3.within fields inside in rw second (begins.matched m.0 m.1 fields m.2));
                taken = λ fields inside. (let m = q.3.whole fields inside in rw (sym r.1) m);
              }));
          covered = covered;
          by_age = t.ascending;
        }
