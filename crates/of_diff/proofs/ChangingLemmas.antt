-- Frames that match no changed entry of a table, if both switches do the same after it.
use Rattle.std.proofs.Common.{◌≡◌, ℕ, zero, suc, ◌+◌, ◌-◌, ◌<◌, ◌≤◌, ◌⊎◌, inl, inr, Bool, true, false, List, [], ◌∷◌, ◌++◌, length, drop, map, Option, Some, None, Result, Ok, Err, IfOk, IfSome, append_assoc, refl, sym, ap, subst, ◌∙◌, arith}
use Rattle.std.proofs.lemmas.List.Elements.{Contains-append_cases, Contains-append_left, Contains-append_right, Contains-push, Contains-push_cases}
use Rattle.std.{specs.Prelude.slice_get, specs.Prelude.slice_index_or, specs.Option.option_map, specs.Global.Vec, specs.List.Contains, specs.List.list_all, proofs.lemmas.Bool.Decides.nat_tests}
use Rattle.std.proofs.{lemmas.List.append-nil, lemmas.List.length_push, lemmas.Option.slice_get_within}
use Rattle.of_layers.specs.declared.field.Field.{Field}
use Rattle.of_oxm.specs.{declared.match_field.MatchField.MatchField, Relations.matches_map}
use Rattle.of_rewrite.specs.Frames.{IsFrame}
use Rattle.of_actions.specs.{declared.action.Action.Action, declared.instruction.Instruction.Instruction, InstructionLists.are_kept, InstructionLists.is_served_body}
use Rattle.of_table.specs.Table.{FlowEntry, winner_place}
use Rattle.of_machine.specs.Rows.{Lookup, Row, Task, Work, entering, entry_row, lookup_row, row, task}
use Rattle.of_machine.specs.Runs.{Machine, after, first_step, starting, step}
use Rattle.of_machine.specs.{declared.data.Packet.Packet, TheWorld.TheWorld, Sound.IsSound}
use Rattle.of_datapath.specs.Datapath.{Forwarding, world_of}
use Rattle.of_regions.specs.{declared.region.Region.Region, Searching.InSome}
use Rattle.of_symbolic.specs.{Branches.rewritten_fields, InnerTags.description_of, Parts.NoneOfMatches}
use Rattle.of_symbolic_run.specs.States.{answer_to_tasks, items_for, packet_for, task_for, work_for}
use Rattle.of_symbolic_run.specs.{declared.frame_set.FrameSet.FrameSet, declared.state.SymbolicTask.SymbolicTask, Received.IsReceivedAt, Received.items_at}
use Rattle.of_symbolic_run.{specs.FrameSets.AreFramesMatching, specs.FrameSets.AreFramesWithout, specs.FrameSets.InFrames, proofs.ReceivedLemmas.fewer_received, proofs.CopyLemmas.same_answer}
use Rattle.of_symbolic_run.proofs.FirstLemmas.{is_lookup}
use Rattle.of_symbolic_run.specs.declared.advance.Advance.TheVariants as advances
use Rattle.of_diff.specs.Changing.{AddsPairs, AddsSet, AreAtTableBefore, AreMarkedAskedIn, AreMatchedSets, ArePairsOf, FirstSetIsOfPorts, IsAgreement, IsAskedIn, MatchedBySome, entries_in}
use Rattle.of_diff.proofs.PairLemmas.{apart_by_first, copy_at, each_by_first, has_pair, of_case, same_tasks}
use Rattle.of_diff.specs.{declared.agreement.Agreement.Agreement, declared.pair.Pair.Pair, Differences.InSets, Differences.IsTreatedAlike}
use Rattle.of_diff.specs.{NextPairs.AreNextPairs, NextPairs.ArePairsApart, NextPairs.IsNextPair, NextPairs.pairs_of_parts, Pairs.ArePairs, Pairs.AreStatesOfRuns, Pairs.InPairs, Pairs.IsByFirst}
use Rattle.of_diff.proofs.CutLemmas.{rests_alike}
use Rattle.of_alike.specs.SameTables.{AreChanged, AreSameHits, EntrySays, IsUnmarkedHit, SayTheSame}
use Rattle.of_alike.specs.{Agreeing.AllFrom, Agreeing.AreNoTable, Agreeing.TaskFrom, declared.alike.Compared.Compared, Emitting.LeaveAlike, SamePorts.SamePorts}
use Rattle.of_alike.proofs.{Agreeing.all_both, Agreeing.works_from, AgreeingRuns.all_from, AgreeingRuns.rests_agree, EmissionLemmas.receives_at}
use Rattle.of_alike.proofs.HitLemmas.{IsWinner, unchanged_hits, winner_is}

-- ---- some list of conditions matches, or none does

pub some_or_none : (asked : List (Vec MatchField)) (fields : Field → Option ℕ) → MatchedBySome asked fields ⊎ NoneOfMatches asked fields
some_or_none [] fields = inr (λ m c. absurd (omega (arith, c.1)))
some_or_none (x ∷ asked) fields = by_test (matches_map x.items fields) refl (some_or_none asked fields)
  where
    later : MatchedBySome asked fields → MatchedBySome (x ∷ asked) fields
    later h = (h.0, (suc h.1.0, (let lt = h.1.1 in omega (arith, lt)), h.1.2), h.2)

    none : matches_map x.items fields ≡ false → NoneOfMatches asked fields → NoneOfMatches (x ∷ asked) fields
    none e h m (zero, lt, at) = ap (λ (y : Vec MatchField). matches_map y.items fields) (sym at) ∙ e
    none e h m (suc i, lt, at) = h m (i, omega (arith, lt), at)

    by_test : (b : Bool) → matches_map x.items fields ≡ b → MatchedBySome asked fields ⊎ NoneOfMatches asked fields → MatchedBySome (x ∷ asked) fields ⊎ NoneOfMatches (x ∷ asked) fields
    by_test true e rest = inl (x, (0, omega arith, refl), e)
    by_test false e (inl some) = inl (later some)
    by_test false e (inr not) = inr (none e not)

-- ---- the conditions of marked entries

abbrev pub HasAll : List (Vec MatchField) → List (Vec MatchField) → Type 0
HasAll some all = (m : Vec MatchField) → Contains some m → Contains all m

pub asked_more : (told : Bool) (some all : List (Vec MatchField)) (l : List Action) (metadata : ℕ) (e : FlowEntry) → HasAll some all → IsAskedIn told some l metadata e → IsAskedIn told all l metadata e
asked_more told some all l metadata e more h frame port is matches = let m = h frame port is matches in (m.0, more m.0 m.1, m.2)

module _ (told : Bool) (asked : List (Vec MatchField)) (l : List Action) (metadata : ℕ) where
  pub none_asked : (flows : List FlowEntry) → AreMarkedAskedIn told asked l metadata flows []
  none_asked flows i e at mark = absurd cc

  pub no_entries_asked : (marks : List Bool) → AreMarkedAskedIn told asked l metadata [] marks
  no_entries_asked marks i e at mark = absurd cc

  pub one_asked : (e : FlowEntry) (flows : List FlowEntry) (mark : Bool) (marks : List Bool) → (mark ≡ true → IsAskedIn told asked l metadata e) → AreMarkedAskedIn told asked l metadata flows marks → AreMarkedAskedIn told asked l metadata (e ∷ flows) (mark ∷ marks)
  one_asked e flows mark marks own others zero x at is = let same : e ≡ x = cc in let on : mark ≡ true = cc in subst (IsAskedIn told asked l metadata) same (own on)
  one_asked e flows mark marks own others (suc i) x at is = others i x at is

-- ---- sets of frames that conditions match

no_region : (fields : Field → Option ℕ) → InSome [] fields → ⊥
no_region fields h = let lt = h.1.1 in omega (arith, lt)

before_or_at : (k n : ℕ) → k < n + 1 → (k < n) ⊎ (n ≡ k)
before_or_at zero zero lt = inr refl
before_or_at zero (suc n) lt = inl (omega arith)
before_or_at (suc k) zero lt = absurd (omega (arith, lt))
before_or_at (suc k) (suc n) lt = elim (before_or_at k n (omega (arith, lt))) as (λ x. (suc k < suc n) ⊎ (suc n ≡ suc k)) [
  | inl less ↦ inl (omega (arith, less))
  | inr same ↦ inr (ap suc same)
]

-- the element at a place is one
at_same : (asked : List (Vec MatchField)) (n k : ℕ) (m x : Vec MatchField) → n < length asked → n ≡ k → m ≡ slice_index_or asked n m → slice_index_or asked k x ≡ x → m ≡ x
at_same [] n k m x lt same is at = absurd (omega (arith, lt))
at_same (y ∷ asked) zero zero m x lt same is at = is ∙ at
at_same (y ∷ asked) zero (suc k) m x lt same is at = absurd (omega (arith, same))
at_same (y ∷ asked) (suc n) zero m x lt same is at = absurd (omega (arith, same))
at_same (y ∷ asked) (suc n) (suc k) m x lt same is at = at_same asked n k m x (omega (arith, lt)) (omega (arith, same)) is at

-- none of the first lists of conditions matches
abbrev pub NoneBefore : List (Vec MatchField) → ℕ → (Field → Option ℕ) → Type 0
NoneBefore asked n fields = (k : ℕ) (m : Vec MatchField) → k < n → slice_index_or asked k m ≡ m → matches_map m.items fields ≡ false

pub record AreSetsSoFar (frames rest : FrameSet) (asked : List (Vec MatchField)) (n : ℕ) (sets : List FrameSet) : Type 0 where
  pub told : rest.inner ≡ frames.inner
  pub within : (s : FrameSet) → Contains sets s → (frame : List ℕ) (port : ℕ) → InFrames s frame port → InFrames frames frame port
  pub left : (frame : List ℕ) (port : ℕ) → InFrames rest frame port → InFrames frames frame port
  pub inside : n ≤ length asked
  pub few : length sets ≤ n
  pub all : (frame : List ℕ) (port : ℕ) → IsFrame frame → InFrames frames frame port → InSets sets frame port ⊎ (InFrames rest frame port × NoneBefore asked n (description_of frames.inner frame port))

pub sets_begin : (frames : FrameSet) (asked : List (Vec MatchField)) (sets : List FrameSet) → sets ≡ [] → AreSetsSoFar frames frames asked 0 sets
sets_begin frames asked sets none = record {
  told = refl;
  within = λ s c. absurd (let d = subst (λ (l : List FrameSet). Contains l s) none c in let lt = d.1 in omega (arith, lt));
  left = λ frame port inside. inside;
  inside = omega arith;
  few = (let e : length sets ≡ 0 = ap length none in omega (arith, e));
  all = λ frame port is_frame inside. inr (inside, λ k m lt. absurd (omega (arith, lt)));
}

pub sets_more : (frames rest those rest' : FrameSet) (asked : List (Vec MatchField)) (n : ℕ) (m : Vec MatchField) (sets sets' : List FrameSet) → n < length asked → m ≡ slice_index_or asked n m → AreFramesMatching m.items rest those → AreFramesWithout m.items rest rest' → AddsSet sets those sets' →
    AreSetsSoFar frames rest asked n sets → AreSetsSoFar frames rest' asked (n + 1) sets'
sets_more frames rest those rest' asked n m sets sets' lt is matching without adds h = record {
  told = without.inner ∙ h.told;
  within = λ s c frame port inside. elim (listed s c adds) as (λ x. InFrames frames frame port) [
    | inl before ↦ h.within s before frame port inside
    | inr same ↦ h.left frame port (matching.within frame port (subst (λ (x : FrameSet). InFrames x frame port) (sym same) inside)).0
  ];
  left = λ frame port inside. h.left frame port (without.within frame port inside).0;
  inside = omega (arith, lt);
  few = elim adds as (λ x. length sets' ≤ n + 1) [
    | inl one ↦ (let e : length sets' ≡ length sets + 1 = ap length one ∙ length_push sets those in omega (arith, e, h.few))
    | inr none ↦ (let e : length sets' ≡ length sets = ap length none.0 in omega (arith, e, h.few))
  ];
  all = λ frame port is_frame inside. elim (h.all frame port is_frame inside) as (λ x. InSets sets' frame port ⊎ (InFrames rest' frame port × NoneBefore asked (n + 1) (description_of frames.inner frame port))) [
    | inl s ↦ inl (s.0, kept s.0 s.1 adds, s.2)
    | inr r ↦ by_test frame port is_frame r.0 r.1 (matches_map m.items (description_of frames.inner frame port)) refl
  ];
}
  where
    listed : (s : FrameSet) → Contains sets' s → AddsSet sets those sets' → Contains sets s ⊎ (those ≡ s)
    listed s c (inl one) = Contains-push_cases sets those s (subst (λ (l : List FrameSet). Contains l s) one c)
    listed s c (inr none) = inl (subst (λ (l : List FrameSet). Contains l s) none.0 c)

    kept : (s : FrameSet) → Contains sets s → AddsSet sets those sets' → Contains sets' s
    kept s c (inl one) = rw one (Contains-append_left sets (those ∷ []) s c)
    kept s c (inr none) = rw none.0 c

    added : (frame : List ℕ) (port : ℕ) → InFrames those frame port → AddsSet sets those sets' → InSets sets' frame port
    added frame port inside (inl one) = (those, rw one (Contains-push sets those), inside)
    added frame port inside (inr none) = absurd (no_region (description_of those.inner frame port) (subst (λ (rs : List Region). InSome rs (description_of those.inner frame port)) none.1 inside.part.0))

    as_rest : (frame : List ℕ) (port : ℕ) (b : Bool) → matches_map m.items (description_of frames.inner frame port) ≡ b → matches_map m.items (description_of rest.inner frame port) ≡ b
    as_rest frame port b e = ap (λ (told : Bool). matches_map m.items (description_of told frame port)) h.told ∙ e

    none_yet : (frame : List ℕ) (port : ℕ) → NoneBefore asked n (description_of frames.inner frame port) → matches_map m.items (description_of frames.inner frame port) ≡ false → NoneBefore asked (n + 1) (description_of frames.inner frame port)
    none_yet frame port before own k x less at = elim (before_or_at k n less) as (λ y. matches_map x.items (description_of frames.inner frame port) ≡ false) [
      | inl earlier ↦ before k x earlier at
      | inr here ↦ (let same : m ≡ x = at_same asked n k m x lt here is at in ap (λ (y : Vec MatchField). matches_map y.items (description_of frames.inner frame port)) (sym same) ∙ own)
    ]

    by_test : (frame : List ℕ) (port : ℕ) → IsFrame frame → InFrames rest frame port → NoneBefore asked n (description_of frames.inner frame port) → (b : Bool) → matches_map m.items (description_of frames.inner frame port) ≡ b → InSets sets' frame port ⊎ (InFrames rest' frame port × NoneBefore asked (n + 1) (description_of frames.inner frame port))
    by_test frame port is_frame inside before true e = inl (added frame port (matching.all frame port is_frame inside (as_rest frame port true e)) adds)
    by_test frame port is_frame inside before false e = inr (without.all frame port inside (as_rest frame port false e), none_yet frame port before e)

pub sets_end : (frames rest : FrameSet) (asked : List (Vec MatchField)) (n : ℕ) (sets : List FrameSet) → length asked ≤ n → AreSetsSoFar frames rest asked n sets → AreMatchedSets frames asked sets
sets_end frames rest asked n sets le h = record {
  within = h.within;
  few = omega (arith, h.few, h.inside);
  all = λ frame port is inside some. elim (h.all frame port is inside) as (λ x. InSets sets frame port) [
    | inl s ↦ s
    | inr r ↦ absurd (let no = r.1 some.1.0 some.0 (let lt = some.1.1 in omega (arith, lt, le)) some.1.2 in let yes = some.2 in cc)
  ];
}

-- ---- pairs of sets

parts_more : (parts : List (List Pair)) (more : List Pair) → pairs_of_parts (parts ++ more ∷ []) ≡ pairs_of_parts parts ++ more
parts_more [] more = append-nil more
parts_more (part ∷ parts) more = ap (λ (l : List Pair). part ++ l) (parts_more parts more) ∙ sym (append_assoc part (pairs_of_parts parts) more)

module _ (w v : TheWorld) (old : Pair) where
  pub no_pairs_of : (sets : List FrameSet) (pairs : List Pair) → sets ≡ [] → pairs ≡ [] → ArePairsOf w v old sets pairs
  no_pairs_of sets pairs none empty = record {
    hold = λ h within p c. absurd (let d = subst (λ (l : List Pair). Contains l p) empty c in let lt = d.1 in omega (arith, lt));
    all = λ s c. absurd (let d = subst (λ (l : List FrameSet). Contains l s) none c in let lt = d.1 in omega (arith, lt));
    next = λ p c. absurd (let d = subst (λ (l : List Pair). Contains l p) empty c in let lt = d.1 in omega (arith, lt));
    parts = [];
    parts_are = empty;
    apart = λ part c. absurd (let lt = c.1 in omega (arith, lt));
    few = omega arith;
  }

  pub pairs_of_more : (sets sets' : List FrameSet) (frames : FrameSet) (pairs pairs' : List Pair) → sets' ≡ sets ++ frames ∷ [] → AddsPairs w frames old.first old.second pairs pairs' → ArePairsOf w v old sets pairs → ArePairsOf w v old sets' pairs'
  pairs_of_more sets sets' frames pairs pairs' is adds h = record {
    hold = λ states within p c. elim (Contains-append_cases pairs adds.more p (subst (λ (l : List Pair). Contains l p) adds.added c)) as (λ x. AreStatesOfRuns w v p) [
      | inl before ↦ h.hold states (λ s there. within s (rw is (Contains-append_left sets (frames ∷ []) s there))) p before
      | inr one ↦ (
          let e = of_case (IsByFirst old.second) adds.cases adds.more adds.by p one in
          let old_within : (frame : List ℕ) (port : ℕ) → InFrames e.c.frames frame port → InFrames old.frames frame port = λ frame port h. within frames (rw is (Contains-push sets frames)) frame port (adds.are.within e.c e.there frame port h) in
          record {
            at = λ frame port is_frame inside.
                let mine : InFrames e.c.frames frame port = rw (sym e.own.0) inside in
                let at = states.at frame port is_frame (old_within frame port mine) in
                (rw e.own.1 (adds.are.at e.c e.there frame port is_frame mine at.0), copy_at v frame port old.second p.second e.own.2 at.1);
            received = rw e.own.0 (fewer_received w.ports old.frames e.c.frames old_within states.received);
          })
    ];
    all = λ s there frame port is_frame inside. elim (Contains-push_cases sets frames s (subst (λ (l : List FrameSet). Contains l s) is there)) as (λ x. InPairs pairs' frame port) [
      | inl before ↦ (let p = h.all s before frame port is_frame inside in (p.0, subst (λ (l : List Pair). Contains l p.0) (sym adds.added) (Contains-append_left pairs adds.more p.0 p.1), p.2))
      | inr same ↦ (let c = adds.are.all frame port is_frame (subst (λ (x : FrameSet). InFrames x frame port) (sym same) inside) in
          let o = has_pair (IsByFirst old.second) adds.cases adds.more adds.by c.0 c.1 in
          (o.p, subst (λ (l : List Pair). Contains l o.p) (sym adds.added) (Contains-append_right pairs adds.more o.p o.there), subst (λ (f : FrameSet). InFrames f frame port) (sym o.own.0) c.2))
    ];
    next = λ p c. elim (Contains-append_cases pairs adds.more p (subst (λ (l : List Pair). Contains l p) adds.added c)) as (λ x. IsNextPair w v old p) [
      | inl before ↦ h.next p before
      | inr one ↦ each_by_first w v old adds.cases adds.more adds.next adds.by p one
    ];
    parts = h.parts ++ adds.more ∷ [];
    parts_are = adds.added ∙ ap (λ (l : List Pair). l ++ adds.more) h.parts_are ∙ sym (parts_more h.parts adds.more);
    apart = λ part c. elim (Contains-push_cases h.parts adds.more part c) as (λ x. ArePairsApart part) [
      | inl before ↦ h.apart part before
      | inr same ↦ subst ArePairsApart same (apart_by_first w v old adds.cases adds.more adds.next adds.by)
    ];
    few = (let one : length (h.parts ++ adds.more ∷ []) ≡ length h.parts + 1 = length_push h.parts adds.more in let two : length sets' ≡ length sets + 1 = ap length is ∙ length_push sets frames in omega (arith, one, two, h.few));
  }

-- ---- a winner that is not marked

mark_at : (marks : List Bool) (i : ℕ) → i < length marks → (b : Bool) × (slice_get marks i ≡ Some b)
mark_at [] i lt = absurd (omega (arith, lt))
mark_at (b ∷ marks) zero lt = (b, refl)
mark_at (b ∷ marks) (suc i) lt = mark_at marks i (omega (arith, lt))

abbrev NoMarkedMatches : (Field → Option ℕ) → List FlowEntry → List Bool → Type 0
NoMarkedMatches packet flows marks = (i : ℕ) (e : FlowEntry) → slice_get flows i ≡ Some e → slice_get marks i ≡ Some true → matches_map e.flow.fields packet ≡ false

unmarked_winner : (packet : Field → Option ℕ) (flows : List FlowEntry) (marks : List Bool) → length marks ≡ length flows → NoMarkedMatches packet flows marks → (w : Option ℕ) → IsWinner packet flows w → IsUnmarkedHit marks w
unmarked_winner packet flows marks long none None h = tt
unmarked_winner packet flows marks long none (Some i) h =
    let m = mark_at marks i (let lt = slice_get_within flows i h.entry h.there in omega (arith, long, lt)) in
    by_mark m.0 m.1
  where
    by_mark : (b : Bool) → slice_get marks i ≡ Some b → slice_get marks i ≡ Some false
    by_mark true e = let no = none i h.entry h.there e in let yes = h.matches in absurd cc
    by_mark false e = e

-- ---- entries that say the same

-- the rows of two lookups leave the same packets and emit nothing
record AreSameLookups (n : ℕ) (r s : Row) : Type 0 where
  pub left : r.left ≡ s.left
  pub first : r.items ≡ []
  pub second : s.items ≡ []
  pub from : AllFrom n r.left

kept_bodies : (is : List Instruction) → are_kept is ≡ true → list_all is_served_body is ≡ true
kept_bodies is h = grind (arith, nat_tests)

module _ (f g : Forwarding) (t : ℕ) (sound : IsSound (world_of f)) where
  entries_same : (p : Packet) → AreNoTable p.action_set → (i j : ℕ) → SayTheSame (entries_in f t) (entries_in g t) i j → AreSameLookups (suc t) (entry_row p t i ((world_of f).flow t i)) (entry_row p t j ((world_of g).flow t j))
  entries_same p set i j h =
      let one : (world_of f).flow t i ≡ Some h.first.flow = ap (option_map (λ e. e.flow)) h.first_there in
      let two : (world_of g).flow t j ≡ Some h.second.flow = ap (option_map (λ e. e.flow)) h.second_there in
      let kept = all_from (suc t) t (omega arith) h.first.flow.instructions (kept_bodies h.first.flow.instructions (sound.kept t i h.first.flow one)) (sound.onward t i h.first.flow one) in
      let same = h.same in
      rw (one, two) (record {
        left = rw (ap (λ (s : EntrySays). s.priority) same, ap (λ (s : EntrySays). s.fields) same, ap (λ (s : EntrySays). s.cookie) same, ap (λ (s : EntrySays). s.instructions) same) refl;
        first = refl;
        second = refl;
        from = (record { set = set; work = works_from (suc t) h.first.flow.instructions kept }, tt);
      })

  hits_same : (p : Packet) → AreNoTable p.action_set → (o q : Option ℕ) → AreSameHits (entries_in f t) (entries_in g t) o q → AreSameLookups (suc t) (lookup_row (world_of f) p t o) (lookup_row (world_of g) p t q)
  hits_same p set None None h = record { left = refl; first = refl; second = refl; from = (record { set = set; work = tt }, tt) }
  hits_same p set None (Some j) h = absurd h
  hits_same p set (Some i) None h = absurd h
  hits_same p set (Some i) (Some j) h = entries_same p set i j h

-- ---- a step of the machine

record StepIs (w : TheWorld) (m : Machine) (r : Row) (rest : List Task) : Type 0 where
  pub tasks : (step w m).tasks ≡ r.left ++ rest
  pub items : (step w m).items ≡ m.items ++ r.items

step_of : (w : TheWorld) (m : Machine) (p : Packet) (work : List Work) (rest : List Task) → m.tasks ≡ task p work ∷ rest → StepIs w m (row w p work) rest
unfolding step
step_of w m p work rest e = record { tasks = ap (λ (ts : List Task). (first_step w m ts).tasks) e; items = ap (λ (ts : List Task). (first_step w m ts).items) e }

-- none of the marked entries matches a packet of a frame that no list of conditions matches
none_marked_matches : (told : Bool) (asked : List (Vec MatchField)) (l : List Action) (metadata : ℕ) (flows : List FlowEntry) (marks : List Bool) → AreMarkedAskedIn told asked l metadata flows marks → (frame : List ℕ) (port : ℕ) → IsFrame frame → NoneOfMatches asked (description_of told frame port) →
    NoMarkedMatches (rewritten_fields l metadata frame port) flows marks
none_marked_matches told asked l metadata flows marks h frame port is none i e at mark = by_test (matches_map e.flow.fields (rewritten_fields l metadata frame port)) refl
  where
    by_test : (b : Bool) → matches_map e.flow.fields (rewritten_fields l metadata frame port) ≡ b → b ≡ false
    by_test false is_so = refl
    by_test true is_so = let m = h i e at mark frame port is is_so in let no = none m.0 m.1 in let yes = m.2 in absurd cc

module _ (c : Compared) (f g : Forwarding) (sound : IsSound (world_of f)) (sound' : IsSound (world_of g)) (ports : SamePorts f.ports g.ports) (a : Agreement) (agreed : IsAgreement f g a) (pair : Pair) (here : AreAtTableBefore a.from pair.first pair.second)
    (sent : LeaveAlike c f.ports pair.frames pair.first.emitted.items pair.second.emitted.items) (x : SymbolicTask) (xs : List SymbolicTask) (first : pair.first.tasks.items ≡ x ∷ xs) (asked : List (Vec MatchField))
    (marked : AreMarkedAskedIn pair.frames.inner asked x.packet.rewrites x.packet.metadata (entries_in f (a.from - 1)) a.changed.a.items) (also : AreMarkedAskedIn pair.frames.inner asked x.packet.rewrites x.packet.metadata (entries_in g (a.from - 1)) a.changed.b.items) where
  abbrev last : ℕ
  last = a.from - 1

  module _ (states : AreStatesOfRuns (world_of f) (world_of g) pair) (frame : List ℕ) (port : ℕ) (received : IsReceivedAt (world_of f) frame port) (within : InFrames pair.frames frame port) (none : NoneOfMatches asked (description_of pair.frames.inner frame port)) where
    abbrev p : Packet
    p = packet_for x.packet frame port

    abbrev key : Field → Option ℕ
    key = rewritten_fields x.packet.rewrites x.packet.metadata frame port

    abbrev rest : List Task
    rest = map (task_for frame port) xs

    abbrev work : List Work
    work = Lookup last ∷ map work_for (drop 1 x.work.items)

    changed : AreChanged (entries_in f last) (entries_in g last) a.changed
    changed = agreed.changed here.positive

    looked : map (task_for frame port) pair.first.tasks.items ≡ task p work ∷ rest
    looked =
        let own : answer_to_tasks (x ∷ xs) ≡ advances.Lookup last = subst (λ (ts : List SymbolicTask). answer_to_tasks ts ≡ advances.Lookup last) first here.lookup in
        rw (first, is_lookup x.work.items last own) refl

    set : AreNoTable p.action_set
    set = subst FirstSetIsOfPorts first here.set

    hits : AreSameHits (entries_in f last) (entries_in g last) (winner_place key (entries_in f last)) (winner_place key (entries_in g last))
    hits =
        unchanged_hits (entries_in f last) (entries_in g last) a.changed changed key
        (unmarked_winner key (entries_in f last) a.changed.a.items changed.first (none_marked_matches pair.frames.inner asked x.packet.rewrites x.packet.metadata (entries_in f last) a.changed.a.items marked frame port received.frame_is none) (winner_place key (entries_in f last)) (winner_is key (entries_in f last)))
        (unmarked_winner key (entries_in g last) a.changed.b.items changed.second (none_marked_matches pair.frames.inner asked x.packet.rewrites x.packet.metadata (entries_in g last) a.changed.b.items also frame port received.frame_is none) (winner_place key (entries_in g last)) (winner_is key (entries_in g last)))

    same : AreSameLookups (suc last) (row (world_of f) p work) (row (world_of g) p work)
    same = hits_same f g last sound p set (winner_place key (entries_in f last)) (winner_place key (entries_in g last)) hits

    next : suc last ≡ a.from
    next = let lt = here.positive in omega (arith, lt)

    others_from : AllFrom a.from rest
    others_from = subst (λ (ts : List SymbolicTask). AllFrom a.from (map (task_for frame port) (drop 1 ts))) first (here.others frame port)

    pub unmatched_alike : IsTreatedAlike c (world_of f) (world_of g) frame port
    unfolding after
    unmatched_alike =
        let at = states.at frame port received.frame_is within in
        let copies = same_tasks frame port pair.first.tasks.items pair.second.tasks.items here.same in
        let one = step_of (world_of f) (after (world_of f) at.0.steps (starting (entering frame port) (Lookup 0 ∷ []))) p work rest (at.0.tasks ∙ looked) in
        let two = step_of (world_of g) (after (world_of g) at.1.steps (starting (entering frame port) (Lookup 0 ∷ []))) p work rest (at.1.tasks ∙ (copies ∙ looked)) in
        let tasks = one.tasks ∙ (ap (λ (ts : List Task). ts ++ rest) same.left ∙ sym two.tasks) in
        let from = subst (AllFrom a.from) (sym one.tasks) (all_both (TaskFrom a.from) _ _ (subst (λ (k : ℕ). AllFrom k (row (world_of f) p work).left) next same.from) others_from) in
        let r = rests_agree a.from (world_of f) (world_of g) sound sound' agreed.agree (entering frame port) refl (suc at.0.steps) (suc at.1.steps) tasks from in
        rests_alike c _ _ (items_at (world_of f) frame port) (items_at (world_of g) frame port)
        (rw (one.items, two.items, same.first, same.second, at.0.items, at.1.items) (rw (append-nil (items_for f.ports pair.first.emitted.items frame port), append-nil (items_for g.ports pair.second.emitted.items frame port)) (sent g.ports ports frame port (receives_at (world_of f) frame port received) within))) r

  -- the frames that some list matches are in pairs, and the others are treated alike
  pub changed_are_pairs : (frames : FrameSet) (sets : List FrameSet) (pairs : List Pair) → AreFramesMatching [] pair.frames frames → AreMatchedSets frames asked sets → ArePairsOf (world_of f) (world_of g) pair sets pairs →
      ArePairs c (world_of f) (world_of g) pair pairs
  changed_are_pairs frames sets pairs copy matched of = record {
    hold = λ states. of.hold states (λ s there frame port within. (copy.within frame port (matched.within s there frame port within)).0);
    all = λ states frame port received within. elim (some_or_none asked (description_of pair.frames.inner frame port)) as (λ x. InPairs pairs frame port ⊎ IsTreatedAlike c (world_of f) (world_of g) frame port) [
      | inl some ↦ (let s = matched.all frame port received.frame_is (copy.all frame port received.frame_is within refl) (subst (λ (b : Bool). MatchedBySome asked (description_of b frame port)) (sym copy.inner) some) in inl (of.all s.0 s.1 frame port received.frame_is s.2))
      | inr none ↦ inr (unmatched_alike states frame port received within none)
    ];
  }

-- so many sets as entries of both tables
pub changed_next : (f g : Forwarding) (n : ℕ) (pair : Pair) → AreAtTableBefore n pair.first pair.second → (sets : List FrameSet) (pairs : List Pair) → ArePairsOf (world_of f) (world_of g) pair sets pairs → length sets ≤ length (entries_in f (n - 1)) + length (entries_in g (n - 1)) →
    AreNextPairs (world_of f) (world_of g) pair pairs
changed_next f g n pair here sets pairs of few = record {
  each = of.next;
  parts = of.parts;
  all = of.parts_are;
  apart = of.apart;
  few = inr (record {
    table = n - 1;
    first = here.lookup;
    second = same_answer pair.first.tasks.items pair.second.tasks.items here.same ∙ here.lookup;
    entries_first = entries_in f (n - 1);
    entries_second = entries_in g (n - 1);
    of_first = record { winner = λ fields. refl; flow = λ place. refl };
    of_second = record { winner = λ fields. refl; flow = λ place. refl };
    enough = omega (arith, of.few, few);
  });
}

-- ---- the first packet

pub first_of_tasks : (ts : List SymbolicTask) (x : SymbolicTask) (t : ℕ) → answer_to_tasks ts ≡ advances.Lookup t → x ≡ slice_index_or ts 0 x → ts ≡ x ∷ drop 1 ts
first_of_tasks [] x t answer is = absurd cc
first_of_tasks (y ∷ ts) x t answer is = ap (λ (z : SymbolicTask). z ∷ ts) (sym is)

pub weaker_found : {A E : Type 0} (P Q : A → Type 0) → ((x : A) → P x → Q x) → (r : Result (Option A) E) → IfOk r (λ found. IfSome found P) → IfOk r (λ found. IfSome found Q)
weaker_found P Q h (Ok None) k = tt
weaker_found P Q h (Ok (Some x)) k = h x k
weaker_found P Q h (Err e) k = tt
