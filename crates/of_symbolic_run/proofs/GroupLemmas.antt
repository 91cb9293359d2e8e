-- A GROUP of the first packet.
use Rattle.std.proofs.Common.{◌≡◌, ◌<◌, ◌+◌, ℕ, zero, suc, Bor, List, [], ◌∷◌, ◌++◌, length, get_or, drop, take, Option, Some, None, refl, sym, ap, subst, ◌∙◌, arith}
use Rattle.std.specs.{Prelude.IsTrue, Prelude.false, Prelude.map, Prelude.unwrap_or, List.list_all, Option.option_map}
use Rattle.std.proofs.lemmas.List.{append-nil, map-append, take_more}
use Rattle.of_actions.specs.{declared.action.Action.Action, Supported.is_supported}
use Rattle.of_actions.specs.declared.action.Action.TheVariants as actions
use Rattle.of_machine.specs.{declared.data.Item.Item, declared.data.Step.Step, declared.data.Step.TheVariants.Act as DidAct, TheWorld.TheWorld}
use Rattle.of_machine.specs.Rows.{Task, copies, group_action_row, task}
use Rattle.of_machine.specs.Rows as rows
use Rattle.of_symbolic_run.specs.declared.advance.Advance.TheVariants as advances
use Rattle.of_symbolic_run.specs.Groups.{AreBucketTasks, AreGroupTasks, AreServedLists, IsBucketTask, IsGroupOf, lists_of}
use Rattle.of_symbolic_run.specs.States.{IsAt, answer_to_tasks, answer_to_works, items_for, packet_for, task_for, work_for}
use Rattle.of_symbolic_run.specs.{declared.state.Emission.Emission, declared.state.SymbolicPacket.SymbolicPacket, declared.state.SymbolicState.SymbolicState}
use Rattle.of_symbolic_run.specs.{declared.state.SymbolicTask.SymbolicTask, declared.state.Work.TheVariants.Act, NextStates.IsNextState, NextStates.chosen_row}
use Rattle.of_symbolic_run.proofs.{FirstLemmas.is_group, NextLemmas.next_at_row}

-- ---- buckets

pub served_bucket : (buckets : List (Bor (List Action))) (i : ℕ) (x : Bor (List Action)) → x ≡ get_or buckets i x → i < length buckets → AreServedLists (lists_of buckets) → IsTrue (list_all (is_supported false) x.now)
served_bucket [] i x is lt served = absurd (omega (arith, lt))
served_bucket (b ∷ buckets) zero x is lt served = subst (λ (y : Bor (List Action)). IsTrue (list_all (is_supported false) y.now)) (sym is) served.0
served_bucket (b ∷ buckets) (suc i) x is lt served = served_bucket buckets i x is (omega (arith, lt)) served.1

tasks_more : (p : SymbolicPacket) (ls : List (List Action)) (ts : List SymbolicTask) (l : List Action) (t : SymbolicTask) → AreBucketTasks p ls ts → IsBucketTask p l t → AreBucketTasks p (ls ++ l ∷ []) (ts ++ t ∷ [])
tasks_more p [] [] l t are one = (one, tt)
tasks_more p [] (y ∷ ts) l t are one = absurd are
tasks_more p (x ∷ ls) [] l t are one = absurd are
tasks_more p (x ∷ ls) (y ∷ ts) l t are one = (are.0, tasks_more p ls ts l t are.1 one)

pub bucket_more : (p : SymbolicPacket) (buckets : List (Bor (List Action))) (i : ℕ) (x : Bor (List Action)) (ts : List SymbolicTask) (t : SymbolicTask) → x ≡ get_or buckets i x → i < length buckets → AreBucketTasks p (lists_of (take i buckets)) ts → IsBucketTask p x.now t
    → AreBucketTasks p (lists_of (take (i + 1) buckets)) (ts ++ t ∷ [])
bucket_more p buckets i x ts t is lt are one =
    let more : take (i + 1) buckets ≡ take i buckets ++ x ∷ [] = take_more buckets i x lt ∙ ap (λ (z : Bor (List Action)). take i buckets ++ z ∷ []) (sym is) in
    let lists : lists_of (take (i + 1) buckets) ≡ lists_of (take i buckets) ++ x.now ∷ [] = ap lists_of more ∙ map-append (λ (b : Bor (List Action)). b.now) (take i buckets) (x ∷ []) in
    subst (λ (ls : List (List Action)). AreBucketTasks p ls (ts ++ t ∷ [])) (sym lists) (tasks_more p (lists_of (take i buckets)) ts x.now t are one)

-- ---- rows

module _ (w : TheWorld) (frame : List ℕ) (port : ℕ) (group : ℕ) (packet : SymbolicPacket) where
  copies_are : (places : List ℕ) (ts : List SymbolicTask) → AreBucketTasks packet (map (λ place. unwrap_or (w.bucket group place) []) places) ts → copies w group (packet_for packet frame port) places ≡ map (task_for frame port) ts
  copies_are [] [] are = refl
  copies_are [] (t ∷ ts) are = absurd are
  copies_are (place ∷ places) [] are = absurd are
  copies_are (place ∷ places) (t ∷ ts) are =
      let first : task_for frame port t ≡ task (rows.bucket_copy w group (packet_for packet frame port) place) (rows.RunSet ∷ []) = rw (are.0.0, are.0.1) refl in
      ap (λ (x : Task). x ∷ copies w group (packet_for packet frame port) places) (sym first) ∙ ap (λ (xs : List Task). task_for frame port t ∷ xs) (copies_are places ts are.1)

  group_left : (rest : List rows.Work) (chosen : Option (List ℕ)) (buckets : Option (List (List Action))) (ts : List SymbolicTask) → option_map (map (λ place. unwrap_or (w.bucket group place) [])) chosen ≡ buckets → AreGroupTasks packet buckets ts →
      ((group_action_row w (packet_for packet frame port) rest group chosen).left ≡ map (task_for frame port) ts ++ task (packet_for packet frame port) rest ∷ []) × ((group_action_row w (packet_for packet frame port) rest group chosen).items ≡ []) × ((group_action_row w (packet_for packet frame port) rest group chosen).line ≡ DidAct (actions.Group group))
  group_left rest None buckets ts is are =
      let none : ts ≡ [] = subst (λ (o : Option (List (List Action))). AreGroupTasks packet o ts) (sym is) are in
      (ap (λ (xs : List SymbolicTask). map (task_for frame port) xs ++ task (packet_for packet frame port) rest ∷ []) (sym none), refl, refl)
  group_left rest (Some places) buckets ts is are =
      let own : AreBucketTasks packet (map (λ place. unwrap_or (w.bucket group place) []) places) ts = subst (λ (o : Option (List (List Action))). AreGroupTasks packet o ts) (sym is) are in
      (ap (λ (xs : List Task). xs ++ task (packet_for packet frame port) rest ∷ []) (copies_are places ts own), refl, refl)

pub group_next : (group : ℕ) (buckets : Option (List (List Action))) (old new : SymbolicState) (first next : SymbolicTask) (rest ts : List SymbolicTask) → answer_to_tasks old.tasks.items ≡ advances.Group group → first ≡ get_or old.tasks.items 0 first → rest ≡ drop 1 old.tasks.items →
    next.packet ≡ first.packet → next.work.items ≡ drop 1 first.work.items → AreGroupTasks next.packet buckets ts → new.tasks.items ≡ (ts ++ next ∷ []) ++ rest → new.emitted.items ≡ old.emitted.items → new.steps.items ≡ old.steps.items ++ DidAct (actions.Group group) ∷ [] →
    (w : TheWorld) → IsGroupOf w group buckets → IsNextState w old new
group_next group buckets old new first next rest ts answer is behind packet work are tasks emitted steps w of =
    by_list old.tasks.items refl
  where
    by_list : (l : List SymbolicTask) → old.tasks.items ≡ l → IsNextState w old new
    by_list [] e = let bad : advances.Done ≡ advances.Group group = ap answer_to_tasks (sym e) ∙ answer in absurd cc
    by_list (t ∷ l) e =
        let same : first ≡ t = is ∙ ap (λ (xs : List SymbolicTask). get_or xs 0 first) e in
        let others : rest ≡ l = behind ∙ ap (drop 1) e in
        let work_is : t.work.items ≡ Act (actions.Group group) ∷ drop 1 t.work.items = is_group t.work.items group (ap answer_to_tasks (sym e) ∙ answer) in
        let own : next.packet ≡ t.packet = packet ∙ ap (λ (x : SymbolicTask). x.packet) same in
        let left_work : next.work.items ≡ drop 1 t.work.items = work ∙ ap (λ (x : SymbolicTask). drop 1 x.work.items) same in
        let these : AreGroupTasks t.packet buckets ts = subst (λ (p : SymbolicPacket). AreGroupTasks p buckets ts) own are in
        let row_is = (λ (frame : List ℕ) (port : ℕ). group_left w frame port group t.packet (map work_for (drop 1 t.work.items)) (w.chosen group) buckets ts of these) in
        let goes_on : (frame : List ℕ) (port : ℕ) → task_for frame port next ≡ task (packet_for t.packet frame port) (map work_for (drop 1 t.work.items)) = (λ frame port. rw (own, left_work) refl) in
        let left : (frame : List ℕ) (port : ℕ) → map (task_for frame port) new.tasks.items ≡ (chosen_row w None false frame port t).left ++ map (task_for frame port) l =
        (λ frame port. rw work_is (ap (map (task_for frame port)) (tasks ∙ ap (λ (xs : List SymbolicTask). (ts ++ next ∷ []) ++ xs) others) ∙ map-append (task_for frame port) (ts ++ next ∷ []) l
        ∙ ap (λ (xs : List Task). xs ++ map (task_for frame port) l) (map-append (task_for frame port) ts (next ∷ []) ∙ ap (λ (x : Task). map (task_for frame port) ts ++ x ∷ []) (goes_on frame port) ∙ sym (row_is frame port).0))) in
        let sent : (frame : List ℕ) (port : ℕ) → (chosen_row w None false frame port t).items ≡ [] = (λ frame port. rw work_is (row_is frame port).1) in
        let more : (frame : List ℕ) (port : ℕ) → items_for w.ports new.emitted.items frame port ≡ items_for w.ports old.emitted.items frame port ++ (chosen_row w None false frame port t).items =
        (λ frame port. ap (λ (es : List Emission). items_for w.ports es frame port) emitted ∙ sym (append-nil (items_for w.ports old.emitted.items frame port)) ∙ ap (λ (xs : List Item). items_for w.ports old.emitted.items frame port ++ xs) (sym (sent frame port))) in
        let told : (frame : List ℕ) (port : ℕ) → (chosen_row w None false frame port t).line ≡ DidAct (actions.Group group) = (λ frame port. rw work_is (row_is frame port).2) in
        let lines : (frame : List ℕ) (port : ℕ) → new.steps.items ≡ old.steps.items ++ (chosen_row w None false frame port t).line ∷ [] = (λ frame port. steps ∙ ap (λ (s : Step). old.steps.items ++ s ∷ []) (sym (told frame port))) in
        record { found = None; expires = false; follows = record { t = t; rest = l; first = e; tasks = left; items = more; lines = lines } }

-- each frame takes that step
pub group_at : (group : ℕ) (w : TheWorld) (frame : List ℕ) (port : ℕ) (old new : SymbolicState) → answer_to_tasks old.tasks.items ≡ advances.Group group → IsNextState w old new → IsAt w frame port old → IsAt w frame port new
group_at group w frame port old new answer h =
    let kind : answer_to_works h.follows.t.work.items ≡ advances.Group group = ap answer_to_tasks (sym h.follows.first) ∙ answer in
    next_at_row w frame port h.found h.expires old new h.follows (rw kind refl)
