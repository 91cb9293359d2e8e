-- The entries that go before one, and what a search among them says.
use Rattle.std.proofs.Common.{◌≡◌, ℕ, ◌+◌, ◌<◌, ◌≤◌, ◌⊎◌, ◌^◌, Bool, true, false, Option, Some, None, List, [], ◌∷◌, ◌++◌, length, refl, sym, ap, subst, ◌∙◌, arith, inl, inr, below_more}
use Rattle.std.specs.{Prelude.slice_get, List.AllByRecursion, List.Contains, Option.option_map}
use Rattle.std.proofs.{lemmas.List.Elements.Contains-append_left, lemmas.List.Elements.Contains-push, lemmas.List.Elements.Contains-push_cases, lemmas.Bool.cases_lt, lemmas.Option.slice_get_past}
use Rattle.of_layers.specs.{declared.field.Field.Field, Reading.layers_of}
use Rattle.of_oxm.specs.{declared.match_field.MatchField.MatchField, NormalForm.IsKept, NormalForm.IsMatch, Relations.matches_map, Relations.overlaps_match}
use Rattle.of_frames.{specs.Rules.shape_of, specs.Rules.tagging_of, proofs.Shapes.shaped, proofs.Shapes.tags_seen}
use Rattle.of_table.specs.Table.{FlowEntry}
use Rattle.of_regions.specs.{declared.rival.Rival.Rival, declared.witness.Packet.Packet as PacketFound, declared.region.Region.Region, Conditions.AreConditions}
use Rattle.of_regions.{specs.Searching.AreTaking, specs.Searching.IsFreePacket, specs.Searching.IsStart, specs.Witness.IsIngressPort, specs.Witness.fields_in, proofs.NarrowingLemmas.kept_condition}
use Rattle.of_check.specs.Verdicts.{AreRivals, GoesBefore, NeverWins, TakesRegion, WinsWith, fields_of}
use Rattle.of_check.{specs.declared.outline.Outline.Outline, specs.Outlines.outline_of, specs.Outlines.outlines_agree, proofs.OutlineLemmas.none_overlap, proofs.WinnerLemmas.wins_alone}

-- a higher priority than the second, or the same and an earlier place
abbrev Precedes : FlowEntry → FlowEntry → ℕ → ℕ → Type 0
Precedes a b j k = (b.flow.priority < a.flow.priority) ⊎ ((a.flow.priority ≡ b.flow.priority) × (j < k))

-- the same, by their outlines
abbrev pub ComesFirst : Outline → Outline → ℕ → ℕ → Type 0
ComesFirst a b j k = (b.priority < a.priority) ⊎ ((a.priority ≡ b.priority) × (j < k))

one_entry : (flows : List FlowEntry) (j : ℕ) (a b : FlowEntry) → slice_get flows j ≡ Some a → slice_get flows j ≡ Some b → a ≡ b
one_entry flows j a b at is = cc

same_first : (flows : List FlowEntry) (i j k : ℕ) (a : GoesBefore flows i k) (b : GoesBefore flows j k) → i ≡ j → a.first ≡ b.first
same_first flows i j k a b e = one_entry flows j a.first b.first (ap (slice_get flows) (sym e) ∙ a.first_there) b.first_there

-- the fields of a match are conditions
match_conditions : (m : List MatchField) → AllByRecursion IsKept m → AreConditions m
match_conditions [] all = tt
match_conditions (e ∷ m) all = (kept_condition e all.0, match_conditions m all.1)

-- of the entries before a place
pub record AreRivalsBelow (flows : List FlowEntry) (k : ℕ) (own : FlowEntry) (rivals : List Rival) (n : ℕ) : Type 0 where
  pub each : (q : Rival) → Contains rivals q → (b : GoesBefore flows q.name k) × (q.fields.now ≡ b.first.flow.fields)
  pub conditions : (q : Rival) → Contains rivals q → AreConditions q.fields.now
  pub all : (j : ℕ) → j < n → (b : GoesBefore flows j k) → ((q : Rival) × Contains rivals q × (q.name ≡ j)) ⊎ (overlaps_match b.first.flow.fields own.flow.fields ≡ false)

module _ (flows : List FlowEntry) (k : ℕ) (own : FlowEntry) (own_there : slice_get flows k ≡ Some own) where
  pub none_kept : AreRivalsBelow flows k own [] 0
  none_kept = record { each = λ q c. absurd (omega (arith, c.1)); conditions = λ q c. absurd (omega (arith, c.1)); all = λ j lt. absurd (omega (arith, lt)) }

  module _ (rivals : List Rival) (at : ℕ) (so_far : AreRivalsBelow flows k own rivals at) where
    pub one_kept : (r : Rival) → r.name ≡ at → (b : GoesBefore flows at k) → r.fields.now ≡ b.first.flow.fields → IsMatch b.first.flow.fields → AreRivalsBelow flows k own (rivals ++ r ∷ []) (at + 1)
    one_kept r name before fields is_match = record {
      conditions = λ q c. elim (Contains-push_cases rivals r q c) as (λ w. AreConditions q.fields.now) [
        | inl old ↦ so_far.conditions q old
        | inr same ↦ subst (λ (y : Rival). AreConditions y.fields.now) same (subst AreConditions (sym fields) (match_conditions before.first.flow.fields is_match.each))
      ];
      each = λ q c. elim (Contains-push_cases rivals r q c) as (λ w. (b : GoesBefore flows q.name k) × (q.fields.now ≡ b.first.flow.fields)) [
        | inl old ↦ so_far.each q old
        | inr same ↦ subst (λ (y : Rival). (b : GoesBefore flows y.name k) × (y.fields.now ≡ b.first.flow.fields)) same
            (subst (λ (n : ℕ). (b : GoesBefore flows n k) × (r.fields.now ≡ b.first.flow.fields)) (sym name) (before, fields))
      ];
      all = below_more (λ (j : ℕ). (b : GoesBefore flows j k) → ((q : Rival) × Contains (rivals ++ r ∷ []) q × (q.name ≡ j)) ⊎ (overlaps_match b.first.flow.fields own.flow.fields ≡ false)) at
          (λ j lt b. elim (so_far.all j lt b) as (λ w. ((q : Rival) × Contains (rivals ++ r ∷ []) q × (q.name ≡ j)) ⊎ (overlaps_match b.first.flow.fields own.flow.fields ≡ false)) [
            | inl kept ↦ inl (kept.0, Contains-append_left rivals (r ∷ []) kept.0 kept.1, kept.2)
            | inr apart ↦ inr apart
          ])
          (λ b. inl (r, Contains-push rivals r, name));
    }

    pub one_passed : ((b : GoesBefore flows at k) → overlaps_match b.first.flow.fields own.flow.fields ≡ false) → AreRivalsBelow flows k own rivals (at + 1)
    one_passed apart = record {
      each = so_far.each;
      conditions = so_far.conditions;
      all = below_more (λ (j : ℕ). (b : GoesBefore flows j k) → ((q : Rival) × Contains rivals q × (q.name ≡ j)) ⊎ (overlaps_match b.first.flow.fields own.flow.fields ≡ false)) at so_far.all (λ b. inr (apart b));
    }

  pub all_kept : (rivals : List Rival) (n : ℕ) → AreRivalsBelow flows k own rivals n → length flows ≤ n → AreRivals flows k own rivals
  all_kept rivals n r len = record {
    each = r.each;
    conditions = r.conditions;
    all = λ j b. elim (cases_lt j n) as (λ w. ((q : Rival) × Contains rivals q × (q.name ≡ j)) ⊎ (overlaps_match b.first.flow.fields own.flow.fields ≡ false)) [
      | inl lt ↦ r.all j lt b
      | inr le ↦ (let past : Some b.first ≡ None = sym b.first_there ∙ slice_get_past flows j (omega (arith, len, le)) in absurd cc)
    ];
  }

  -- ---- the entry at a place

  module _ (at : ℕ) (b : GoesBefore flows at k) where
    before_own : Precedes b.first own at k
    before_own = subst (λ (z : FlowEntry). Precedes b.first z at k) (one_entry flows k b.second own b.second_there own_there) b.before

    pub outlines_tell : (other outline : Outline) → option_map outline_of (slice_get flows at) ≡ Some other → outline ≡ outline_of own → ¬ (ComesFirst other outline at k × (outlines_agree other outline ≡ true)) → overlaps_match b.first.flow.fields own.flow.fields ≡ false
    outlines_tell other outline there is neither = by_test (outlines_agree (outline_of b.first) (outline_of own)) refl
      where
        first : outline_of b.first ≡ other
        first = let found : Some (outline_of b.first) ≡ Some other = ap (option_map outline_of) (sym b.first_there) ∙ there in cc

        not_both : ¬ (ComesFirst (outline_of b.first) (outline_of own) at k × (outlines_agree (outline_of b.first) (outline_of own) ≡ true))
        not_both = subst (λ (o : Outline). ¬ (ComesFirst o (outline_of own) at k × (outlines_agree o (outline_of own) ≡ true))) (sym first) (subst (λ (o : Outline). ¬ (ComesFirst other o at k × (outlines_agree other o ≡ true))) is neither)

        by_test : (t : Bool) → outlines_agree (outline_of b.first) (outline_of own) ≡ t → overlaps_match b.first.flow.fields own.flow.fields ≡ false
        by_test false t = none_overlap b.first own t
        by_test true t = absurd (not_both (before_own, t))

    pub matches_tell : (x : FlowEntry) → slice_get flows at ≡ Some x → overlaps_match x.flow.fields own.flow.fields ≡ false → overlaps_match b.first.flow.fields own.flow.fields ≡ false
    matches_tell x there apart = ap (λ (y : FlowEntry). overlaps_match y.flow.fields own.flow.fields) (one_entry flows at b.first x b.first_there there) ∙ apart

    pub entry_tells : slice_get flows at ≡ None → overlaps_match b.first.flow.fields own.flow.fields ≡ false
    entry_tells none = let there = b.first_there in absurd cc

  comes_before : (at : ℕ) (x : FlowEntry) → slice_get flows at ≡ Some x → (other outline : Outline) → option_map outline_of (slice_get flows at) ≡ Some other → outline ≡ outline_of own → ComesFirst other outline at k → GoesBefore flows at k
  comes_before at x there other outline outlined is before = record {
    first = x;
    first_there = there;
    second = own;
    second_there = own_there;
    before = subst (λ (o : Outline). ComesFirst o (outline_of own) at k) (sym first) (subst (λ (o : Outline). ComesFirst other o at k) is before);
  }
    where
      first : outline_of x ≡ other
      first = let found : Some (outline_of x) ≡ Some other = ap (option_map outline_of) (sym there) ∙ outlined in cc

  pub is_rival : (at : ℕ) (x : FlowEntry) (fields : List MatchField) → slice_get flows at ≡ Some x → (other outline : Outline) → option_map outline_of (slice_get flows at) ≡ Some other → outline ≡ outline_of own → ComesFirst other outline at k →
      fields ≡ x.flow.fields → IsMatch x.flow.fields → (b : GoesBefore flows at k) × (fields ≡ b.first.flow.fields) × IsMatch b.first.flow.fields
  unfolding comes_before
  is_rival at x fields there other outline outlined is before same is_match = (comes_before at x there other outline outlined is before, same, is_match)

  -- ---- what a search says

  module _ (overlap : (m n : List MatchField) (map : Field → Option ℕ) → matches_map m map ≡ true → matches_map n map ≡ true → overlaps_match m n ≡ true) (rivals : List Rival) (are : AreRivals flows k own rivals) where
    none_before : (map : Field → Option ℕ) → matches_map own.flow.fields map ≡ true → ((q : Rival) → Contains rivals q → matches_map q.fields.now map ≡ false) → (j : ℕ) (b : GoesBefore flows j k) → matches_map b.first.flow.fields map ≡ false
    none_before map m free j b = elim (are.all j b) as (λ w. matches_map b.first.flow.fields map ≡ false) [
      | inl kept ↦ (
          let r = are.each kept.0 kept.1 in
          let first : r.0.first ≡ b.first = same_first flows kept.0.name j k r.0 b kept.2 in
          ap (λ (y : FlowEntry). matches_map y.flow.fields map) (sym first) ∙ ap (λ fields. matches_map fields map) (sym r.1) ∙ free kept.0 kept.1)
      | inr apart ↦ by_test (matches_map b.first.flow.fields map) refl apart
    ]
      where
        by_test : (t : Bool) → matches_map b.first.flow.fields map ≡ t → overlaps_match b.first.flow.fields own.flow.fields ≡ false → matches_map b.first.flow.fields map ≡ false
        by_test false t apart = t
        by_test true t apart = let both : overlaps_match b.first.flow.fields own.flow.fields ≡ true = overlap b.first.flow.fields own.flow.fields map t m in absurd cc

    small_port : (port : ℕ) → IsIngressPort port → port < 2 ^ 32
    small_port port (inl h) = omega (arith, h.1)
    small_port port (inr e) = omega (arith, e)

    pub free_wins : (start : List Region) → IsStart own.flow.fields start → (p : PacketFound) → IsFreePacket start rivals p → WinsWith flows k (record { frame = p.frame.items; in_port = p.in_port; metadata = p.metadata })
    free_wins start begins p f = record {
      packet = record { bytes = f.received.frame_is.1; long = f.received.frame_is.0; port_fits = small_port p.in_port f.received.ingress; metadata_fits = f.received.metadata_fits };
      short = f.received.short;
      ingress = f.received.ingress;
      wins = wins_alone flows (fields_in p) k own own_there matched (none_before (fields_in p) matched f.unrivalled);
    }
      where
        matched : matches_map own.flow.fields (fields_in p) ≡ true
        matched = begins.matched f.within.0 f.within.1 (fields_in p) f.within.2

    pub taking_never : (start : List Region) → IsStart own.flow.fields start → (names : List ℕ) → AreTaking start rivals names → NeverWins flows k names
    taking_never start begins names t = record {
      before = λ j c. (let q = t.named j c in subst (λ (n : ℕ). GoesBefore flows n k) q.2 (are.each q.0 q.1).0);
      shares = λ j c.
          let q = t.named j c in
          let r = are.each q.0 q.1 in
          let second : r.0.second ≡ own = one_entry flows k r.0.second own r.0.second_there own_there in
          inr (subst (λ (n : ℕ). TakesRegion flows n k) q.2 (record {
            before = r.0;
            region = q.3.region;
            own = λ fields inside. (let m = q.3.within fields inside in rw second (begins.matched m.0 m.1 fields m.2));
            taken = λ fields inside. (let m = q.3.whole fields inside in rw (sym r.1) m);
          }));
      covered = λ p is m.
          let same : m.entry ≡ own = one_entry flows k m.entry own m.there own_there in
          let matches = ap (λ (y : FlowEntry). matches_map y.flow.fields (fields_of p)) (sym same) ∙ m.matches in
          let q = t.covered p.frame p.in_port p.metadata (is.long, is.bytes) (begins.all (shape_of (layers_of p.frame).body) (tagging_of (layers_of p.frame).tags) (fields_of p) (shaped p.frame p.in_port p.metadata is.bytes is.long) (tags_seen p.frame p.in_port p.metadata is.bytes is.long) matches) in
          let r = are.each q.0 q.1 in
          (q.0.name, q.2, record { entry = r.0.first; there = r.0.first_there; matches = ap (λ fields. matches_map fields (fields_of p)) (sym r.1) ∙ q.3 });
      by_age = t.ascending;
    }
