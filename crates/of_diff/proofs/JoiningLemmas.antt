-- A lookup in tables that say the same.
use Rattle.std.proofs.Common.{◌≡◌, ℕ, zero, suc, eqb, cond, Bool, true, false, List, [], ◌∷◌, ◌++◌, map, Option, Some, None, refl, sym, ap, subst, ◌∙◌, inl, arith}
use Rattle.std.{specs.Prelude.slice_get, specs.Option.option_map, specs.List.Contains, proofs.lemmas.Bool.eqb-true, proofs.lemmas.Bool.Decides.nat_tests}
use Rattle.of_table.specs.{declared.flow.Flow.Flow, Table.FlowEntry, Table.flow_at}
use Rattle.of_machine.specs.{declared.data.Item.Item, declared.data.Packet.Packet, declared.data.Step.Step, Rows.Row, Rows.Task, Rows.entry_row, Rows.lookup_row, TheWorld.TheWorld, Sound.IsSound}
use Rattle.of_datapath.specs.Datapath.{Forwarding, world_of}
use Rattle.of_symbolic_run.specs.States.{IsAt, answer_to_tasks, answer_to_works, items_for, packet_for, task_for}
use Rattle.of_symbolic_run.specs.{declared.dividing.Case.Case, declared.joint.JointCase.JointCase, declared.state.SymbolicState.SymbolicState, Cases.AreCases, Cases.IsTableOf, FrameSets.InFrames}
use Rattle.of_symbolic_run.specs.NextStates.{AreNextStates, IsNextState, chosen_row}
use Rattle.of_symbolic_run.{specs.JointCases.first_case, specs.JointCases.first_cases, specs.JointCases.second_case, specs.JointCases.second_cases, proofs.ReceivedLemmas.fewer_received}
use Rattle.of_symbolic_run.specs.declared.advance.Advance.TheVariants as advances
use Rattle.of_alike.specs.{declared.alike.Compared.Compared, Agreeing.AgreeFrom, Agreeing.AreSameFlows, SameTables.EntrySays, SameTables.SameTables, SameTables.says_of}
use Rattle.of_alike.proofs.{HitLemmas.same_at, HitLemmas.same_winner, SameRunLemmas.at_one, SameRunLemmas.at_other}
use Rattle.of_diff.specs.{declared.pair.Pair.Pair, Changing.entries_in, NextPairs.AreNextPairs, NextPairs.ArePairsApart, NextPairs.IsNextPair, Pairs.ArePairs, Pairs.pair_of_case}
use Rattle.of_diff.proofs.PairLemmas.{in_one_part}

-- ---- entries that say the same

said_flows : (a b : Option FlowEntry) → option_map says_of a ≡ option_map says_of b → AreSameFlows (option_map (λ e. e.flow) a) (option_map (λ e. e.flow) b)
said_flows None None e = tt
said_flows None (Some y) e = absurd cc
said_flows (Some x) None e = absurd cc
said_flows (Some x) (Some y) e =
    let h : Some (says_of x) ≡ Some (says_of y) = e in
    let k : says_of x ≡ says_of y = cc in
    record { priority = ap (λ (s : EntrySays). s.priority) k; fields = ap (λ (s : EntrySays). s.fields) k; cookie = ap (λ (s : EntrySays). s.cookie) k; instructions = ap (λ (s : EntrySays). s.instructions) k }

pub same_flow_at : (fs gs : List FlowEntry) → SameTables fs gs → (place : ℕ) → AreSameFlows (flow_at place fs) (flow_at place gs)
same_flow_at fs gs e place = said_flows (slice_get fs place) (slice_get gs place) (same_at fs gs e place)

is_itself : (n : ℕ) → eqb n n ≡ true
is_itself n = grind (arith, nat_tests)

flow_itself : (o : Option Flow) → AreSameFlows o o
flow_itself None = tt
flow_itself (Some f) = record { priority = refl; fields = refl; cookie = refl; instructions = refl }

-- ---- the second switch with the entries of the first

with_entries : ℕ → List FlowEntry → TheWorld → TheWorld
with_entries table flows v = record v { flow = λ t place. cond (eqb t table) (flow_at place flows) (v.flow t place) }

module _ (f g : Forwarding) (table : ℕ) (same : SameTables (entries_in f table) (entries_in g table)) where
  flows_same : (t place : ℕ) (b : Bool) → eqb t table ≡ b → AreSameFlows ((world_of g).flow t place) (cond b (flow_at place (entries_in f table)) ((world_of g).flow t place))
  flows_same t place true e = subst (λ (k : ℕ). AreSameFlows ((world_of g).flow k place) (flow_at place (entries_in f table))) (sym (eqb-true t table e)) (same_flow_at (entries_in g table) (entries_in f table) (sym same) place)
  flows_same t place false e = flow_itself ((world_of g).flow t place)

  agrees : AgreeFrom 0 (world_of g) (with_entries table (entries_in f table) (world_of g))
  unfolding with_entries
  agrees = record {
    winner = λ t le fields. refl;
    flow = λ t place le. flows_same t place (eqb t table) refl;
    chosen = λ n. refl;
    bucket = λ n place. refl;
    emits = λ p port max_len. refl;
  }

  has_entries : IsTableOf (with_entries table (entries_in f table) (world_of g)) table (entries_in f table)
  unfolding with_entries
  has_entries = record {
    winner = λ fields. same_winner fields (entries_in g table) (entries_in f table) (sym same);
    flow = λ place. rw (is_itself table) refl;
  }

  ports_are : (world_of g).ports ≡ (with_entries table (entries_in f table) (world_of g)).ports
  unfolding with_entries
  ports_are = refl

-- ---- pairs of cases

in_image : {X Y : Type 0} (h : X → Y) (xs : List X) (x : X) → Contains xs x → Contains (map h xs) (h x)
in_image h [] x c = absurd (omega (arith, c.1))
in_image h (y ∷ xs) x (zero, lt, at) = (0, omega arith, ap h at)
in_image h (y ∷ xs) x (suc k, lt, at) = let c = in_image h xs x (k, omega (arith, lt), at) in (suc c.0, (let l = c.1 in omega (arith, l)), c.2)

record IsImageOf {X Y : Type 0} (h : X → Y) (xs : List X) (y : Y) : Type 0 where
  x : X
  there : Contains xs x
  is : h x ≡ y

image_of : {X Y : Type 0} (h : X → Y) (xs : List X) (y : Y) → Contains (map h xs) y → IsImageOf h xs y
image_of h [] y c = absurd (omega (arith, c.1))
image_of h (x ∷ xs) y (zero, lt, at) = record { x = x; there = (0, omega arith, refl); is = at }
image_of h (x ∷ xs) y (suc k, lt, at) = let i = image_of h xs y (k, omega (arith, lt), at) in record { x = i.x; there = (suc i.there.0, (let l = i.there.1 in omega (arith, l)), i.there.2); is = i.is }

pub joint_are_pairs : (c : Compared) (f g : Forwarding) (table : ℕ) → IsSound (world_of g) → SameTables (entries_in f table) (entries_in g table) → (old : Pair) (cases : List JointCase) →
    ((w : TheWorld) → IsTableOf w table (entries_in f table) → AreCases w old.frames old.first (first_cases cases)) → ((w : TheWorld) → IsTableOf w table (entries_in f table) → AreCases w old.frames old.second (second_cases cases)) →
    ArePairs c (world_of f) (world_of g) old (map pair_of_case cases)
joint_are_pairs c f g table sound same old cases first second =
    let w = world_of f in
    let v = world_of g in
    let other = with_entries table (entries_in f table) v in
    let agree = agrees f g table same in
    let ports = ports_are f g table same in
    let one = first w (record { winner = λ fields. refl; flow = λ place. refl }) in
    let two = second other (has_entries f g table same) in
    record {
      hold = λ states p there.
          let i = image_of pair_of_case cases p there in
          let mine = in_image first_case cases i.x i.there in
          let yours = in_image second_case cases i.x i.there in
          let frames : i.x.frames ≡ p.frames = ap (λ (q : Pair). q.frames) i.is in
          record {
            at = λ frame port is within.
                let inside = subst (λ (q : Pair). InFrames q.frames frame port) (sym i.is) within in
                let at = states.at frame port is (one.within (first_case i.x) mine frame port inside) in
                let left = one.at (first_case i.x) mine frame port is inside at.0 in
                let right = at_one v other sound agree ports frame port i.x.second (two.at (second_case i.x) yours frame port is inside (at_other v other sound agree ports frame port old.second at.1)) in
                subst (λ (q : Pair). IsAt w frame port q.first × IsAt v frame port q.second) i.is (left, right);
            received = rw (sym frames) (fewer_received w.ports old.frames i.x.frames (one.within (first_case i.x) mine) states.received);
          };
      all = λ states frame port received within.
          let a = one.all frame port received.frame_is within in
          let i = image_of first_case cases a.0 a.1 in
          inl (pair_of_case i.x, in_image pair_of_case cases i.x i.there, subst (λ (q : Case). InFrames q.frames frame port) (sym i.is) a.2);
    }

-- ---- the next states of both

-- the case at a place
record IsImageAt {X Y : Type 0} (h : X → Y) (xs : List X) (k : ℕ) (y : Y) : Type 0 where
  x : X
  there : slice_get xs k ≡ Some x
  is : h x ≡ y

image_at : {X Y : Type 0} (h : X → Y) (xs : List X) (k : ℕ) (y : Y) → slice_get (map h xs) k ≡ Some y → IsImageAt h xs k y
image_at h [] k y at = absurd cc
image_at h (x ∷ xs) zero y at = let same : h x ≡ y = cc in record { x = x; there = refl; is = same }
image_at h (x ∷ xs) (suc k) y at = let i = image_at h xs k y at in record { x = i.x; there = i.there; is = i.is }

at_image : {X Y : Type 0} (h : X → Y) (xs : List X) (k : ℕ) (x : X) → slice_get xs k ≡ Some x → slice_get (map h xs) k ≡ Some (h x)
at_image h [] k x at = absurd cc
at_image h (y ∷ xs) zero x at = let same : y ≡ x = cc in ap (λ z. Some (h z)) same
at_image h (y ∷ xs) (suc k) x at = at_image h xs k x at

-- an entry that says the same leads to the same state
record AreSameEntryRows (r s : Row) : Type 0 where
  left : r.left ≡ s.left
  items : r.items ≡ s.items
  line : r.line ≡ s.line

entry_rows : (p : Packet) (t n : ℕ) (a b : Option Flow) → AreSameFlows a b → AreSameEntryRows (entry_row p t n a) (entry_row p t n b)
entry_rows p t n None None same = record { left = refl; items = refl; line = refl }
entry_rows p t n None (Some g) same = absurd same
entry_rows p t n (Some f) None same = absurd same
entry_rows p t n (Some f) (Some g) same = record { left = rw (same.priority, same.fields, same.cookie, same.instructions) refl; items = refl; line = refl }

lookup_rows : (w v : TheWorld) (p : Packet) (t : ℕ) (found : Option ℕ) → AgreeFrom 0 w v → AreSameEntryRows (lookup_row w p t found) (lookup_row v p t found)
lookup_rows w v p t None agree = record { left = refl; items = refl; line = refl }
lookup_rows w v p t (Some n) agree = entry_rows p t n (w.flow t n) (v.flow t n) (agree.flow t n (omega arith))

next_in_other : (w v : TheWorld) (table : ℕ) (old new : SymbolicState) → AgreeFrom 0 w v → w.ports ≡ v.ports → answer_to_tasks old.tasks.items ≡ advances.Lookup table → IsNextState v old new → IsNextState w old new
next_in_other w v table old new agree ports answer h = record {
  found = h.found;
  expires = h.expires;
  follows = record {
    t = h.follows.t;
    rest = h.follows.rest;
    first = h.follows.first;
    tasks = λ frame port. h.follows.tasks frame port ∙ ap (λ (l : List Task). l ++ map (task_for frame port) h.follows.rest) (sym (rows frame port).left);
    items = λ frame port. rw ports (h.follows.items frame port) ∙ ap (λ (l : List Item). items_for w.ports old.emitted.items frame port ++ l) (sym (rows frame port).items);
    lines = λ frame port. h.follows.lines frame port ∙ ap (λ (s : Step). old.steps.items ++ s ∷ []) (sym (rows frame port).line);
  };
}
  where
    kind : answer_to_works h.follows.t.work.items ≡ advances.Lookup table
    kind = ap answer_to_tasks (sym h.follows.first) ∙ answer

    rows : (frame : List ℕ) (port : ℕ) → AreSameEntryRows (chosen_row w h.found h.expires frame port h.follows.t) (chosen_row v h.found h.expires frame port h.follows.t)
    rows frame port = rw kind (lookup_rows w v (packet_for h.follows.t.packet frame port) table h.found agree)

pub joint_next : (f g : Forwarding) (table : ℕ) → SameTables (entries_in f table) (entries_in g table) → (old : Pair) (cases : List JointCase) → answer_to_tasks old.second.tasks.items ≡ advances.Lookup table →
    ((w : TheWorld) → IsTableOf w table (entries_in f table) → AreNextStates w old.first (first_cases cases)) → ((w : TheWorld) → IsTableOf w table (entries_in f table) → AreNextStates w old.second (second_cases cases)) → AreNextPairs (world_of f) (world_of g) old (map pair_of_case cases)
joint_next f g table same old cases answer first second = in_one_part (world_of f) (world_of g) old (map pair_of_case cases) each apart
  where
    one : AreNextStates (world_of f) old.first (first_cases cases)
    one = first (world_of f) (record { winner = λ fields. refl; flow = λ place. refl })

    each : (p : Pair) → Contains (map pair_of_case cases) p → IsNextPair (world_of f) (world_of g) old p
    each p there =
        let v = world_of g in
        let other = with_entries table (entries_in f table) v in
        let two = second other (has_entries f g table same) in
        let i = image_of pair_of_case cases p there in
        let left = one.each (first_case i.x) (in_image first_case cases i.x i.there) in
        let right = next_in_other v other table old.second i.x.second (agrees f g table same) (ports_are f g table same) answer (two.each (second_case i.x) (in_image second_case cases i.x i.there)) in
        subst (IsNextPair (world_of f) v old) i.is (IsNextPair.both left right)

    apart : ArePairsApart (map pair_of_case cases)
    apart i j p q at_i at_j level both =
        let x = image_at pair_of_case cases i p at_i in
        let y = image_at pair_of_case cases j q at_j in
        one.apart i j (first_case x.x) (first_case y.x) (at_image first_case cases i x.x x.there) (at_image first_case cases j y.x y.there) (ap (λ (z : Pair). z.first.steps.items) x.is ∙ level ∙ ap (λ (z : Pair). z.first.steps.items) (sym y.is))
