use Rattle.std.proofs.Common.{◌≡◌, ◌≤◌, ◌+◌, ◌-◌, ℕ, List, Option, Result, IfOk, IfSome, arith, drop, length, subst, sym}
use Rattle.std.specs.{Global.Vec, List.Contains}
use Rattle.of_oxm.specs.declared.match_field.MatchField.{MatchField}
use Rattle.of_machine.specs.TheWorld.{TheWorld}
use Rattle.of_datapath.specs.{Datapath.Forwarding, Datapath.world_of, Numbers.forwarding_of}
use Rattle.of_symbolic_run.specs.declared.frame_set.FrameSet.{FrameSet}
use Rattle.of_diff.specs.{declared.pair.Pair.Pair, Changing.AreAtTableBefore, Changing.AreMatchedSets, Changing.ArePairsOf, Changing.entries_in, NextPairs.AreNextPairs}
use Rattle.of_diff.proofs.ChangingLemmas.{changed_are_pairs, changed_next, first_of_tasks, weaker_found}
use Rattle.of_diff.proofs.changing.changed_pairs.Goals as goal

-- no more sets than lists of conditions
few_of : (frames : FrameSet) (asked : List (Vec MatchField)) (sets : List FrameSet) (n : ℕ) → AreMatchedSets frames asked sets → length asked ≤ n → length sets ≤ n
few_of frames asked sets n matched le = omega (arith, matched.few, le)

next_found : {E : Type 0} (f g : Forwarding) (n : ℕ) (pair : Pair) → AreAtTableBefore n pair.first pair.second → (frames : FrameSet) (asked shown : List (Vec MatchField)) (sets seen : List FrameSet) → shown ≡ asked → seen ≡ sets → AreMatchedSets frames shown sets →
    length asked ≤ length (entries_in f (n - 1)) + length (entries_in g (n - 1)) → (r : Result (Option (Vec Pair)) E) → IfOk r (λ found. IfSome found (λ pairs. (v : TheWorld) → ArePairsOf (world_of f) v pair seen pairs.items)) → IfOk r (λ found. IfSome found (λ pairs. AreNextPairs (world_of f) (world_of g) pair pairs.items))
next_found f g n pair here frames asked shown sets seen same own matched le r of =
    let few = few_of frames shown sets (length (entries_in f (n - 1)) + length (entries_in g (n - 1))) matched (subst (λ (l : List (Vec MatchField)). length l ≤ length (entries_in f (n - 1)) + length (entries_in g (n - 1))) (sym same) le) in
    weaker_found (λ (pairs : Vec Pair). (v : TheWorld) → ArePairsOf (world_of f) v pair seen pairs.items) (λ (pairs : Vec Pair). AreNextPairs (world_of f) (world_of g) pair pairs.items)
    (λ pairs all. changed_next f g n pair here sets pairs.items (subst (λ (l : List FrameSet). ArePairsOf (world_of f) (world_of g) pair l pairs.items) own (all (world_of g))) few) r of

pub matched_sets-requires : goal.matched_sets-requires
matched_sets-requires g c = λ m there. (rw c.in-Some.is at c.in_ok-asked.ensures.conditions) m (subst (λ (l : List (Vec MatchField)). Contains l m) c.deref.ensures.value there)

pub returns-clause-pairs : goal.returns-clause-pairs
returns-clause-pairs g c =
    let f = forwarding_of c.args.first.now in
    let s = forwarding_of c.args.second.now in
    let pair = c.args.pair.now in
    let tasks = pair.first.tasks.items in
    let x = c.index.result.now in
    let asked = c.in-Some.asked.items in
    let matched = subst (λ (l : List (Vec MatchField)). AreMatchedSets c.in_ok-frames.frames l c.in_ok-sets.sets.items) c.deref.ensures.value c.in_ok-sets.ensures in
    weaker_found _ _ (λ pairs of k sent.
    changed_are_pairs k f s c.known_world.ensures c.known_world-2.ensures c.requires.ports c.args.agreement.now c.requires.agreement pair c.requires.here sent x (drop 1 tasks)
    (first_of_tasks tasks x _ c.requires.here.lookup c.index.ensures) asked (rw c.in-Some.is at c.in_ok-asked.ensures.first) (rw c.in-Some.is at c.in_ok-asked.ensures.second)
    c.in_ok-frames.frames c.in_ok-sets.sets.items pairs.items c.in_ok-frames.ensures matched
    (subst (λ (l : List FrameSet). ArePairsOf (world_of f) (world_of s) pair l pairs.items) c.deref-2.ensures.value (of (world_of s))))
    c.pairs_of_sets.result c.pairs_of_sets.ensures

pub returns-clause-next : goal.returns-clause-next
returns-clause-next g c =
    next_found (forwarding_of c.args.first.now) (forwarding_of c.args.second.now) c.args.agreement.now.from c.args.pair.now c.requires.here c.in_ok-frames.frames c.in-Some.asked.items c.deref.result.now c.in_ok-sets.sets.items c.deref-2.result.now
    c.deref.ensures.value c.deref-2.ensures.value c.in_ok-sets.ensures (rw c.in-Some.is at c.in_ok-asked.ensures.few) c.pairs_of_sets.result c.pairs_of_sets.ensures
