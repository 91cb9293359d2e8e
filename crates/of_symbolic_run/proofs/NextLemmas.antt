-- The next states of a run.
use Rattle.std.proofs.Common.{◌≡◌, ◌<◌, ℕ, zero, suc, Bool, false, List, [], ◌∷◌, ◌++◌, length, Option, Some, None, refl, sym, ap, ◌∙◌, arith}
use Rattle.std.specs.Prelude.{map, slice_get}
use Rattle.of_machine.specs.{declared.data.Item.Item, declared.data.Step.Step, TheWorld.TheWorld, Rows.Row, Rows.Task}
use Rattle.of_symbolic_run.specs.declared.advance.Advance.TheVariants as advances
use Rattle.of_symbolic_run.specs.NextStates.{AreNextStates, HaveDistinctSteps, IsNextState, IsNextStateIf, chosen_row}
use Rattle.of_symbolic_run.specs.States.{AreTaskCopies, IsAt, TakesStep, TellsStep, answer_to_tasks, items_for, row_for, task_for}
use Rattle.of_symbolic_run.specs.{declared.dividing.Case.Case, declared.state.Emission.Emission, declared.state.SymbolicState.SymbolicState, declared.state.SymbolicTask.SymbolicTask}
use Rattle.of_symbolic_run.proofs.RunLemmas.{same_tasks, taken_at}

-- ---- a frame that takes the step

module _ (w : TheWorld) (frame : List ℕ) (port : ℕ) (found : Option ℕ) (expires : Bool) (old new : SymbolicState) (h : IsNextStateIf w found expires old new) where
  pub next_at : (row_for w frame port h.t).left ≡ (chosen_row w found expires frame port h.t).left → (row_for w frame port h.t).items ≡ (chosen_row w found expires frame port h.t).items → (row_for w frame port h.t).line ≡ (chosen_row w found expires frame port h.t).line →
      IsAt w frame port old → IsAt w frame port new
  next_at left items line at =
      taken_at w frame port old new h.t h.rest h.first (h.tasks frame port ∙ ap (λ (l : List Task). l ++ map (task_for frame port) h.rest) (sym left))
      (h.items frame port ∙ ap (λ (l : List Item). items_for w.ports old.emitted.items frame port ++ l) (sym items))
      (h.lines frame port ∙ ap (λ (s : Step). old.steps.items ++ s ∷ []) (sym line)) at

  pub next_at_row : row_for w frame port h.t ≡ chosen_row w found expires frame port h.t → IsAt w frame port old → IsAt w frame port new
  next_at_row same = next_at (ap (λ (r : Row). r.left) same) (ap (λ (r : Row). r.items) same) (ap (λ (r : Row). r.line) same)

-- ---- a step on a copy

pub copy_next : (w : TheWorld) (found : Option ℕ) (expires : Bool) (old new : SymbolicState) (t t' : SymbolicTask) (rest others : List SymbolicTask) → old.tasks.items ≡ t ∷ rest → new.tasks.items ≡ t' ∷ others → AreTaskCopies rest others →
    ((frame : List ℕ) (port : ℕ) → (chosen_row w found expires frame port t).left ≡ task_for frame port t' ∷ []) → ((frame : List ℕ) (port : ℕ) → items_for w.ports new.emitted.items frame port ≡ items_for w.ports old.emitted.items frame port ++ (chosen_row w found expires frame port t).items) →
    ((frame : List ℕ) (port : ℕ) → new.steps.items ≡ old.steps.items ++ (chosen_row w found expires frame port t).line ∷ []) → IsNextStateIf w found expires old new
copy_next w found expires old new t t' rest others first next behind left items lines = record {
  t = t;
  rest = rest;
  first = first;
  tasks = λ frame port. ap (map (task_for frame port)) next ∙ ap (λ (xs : List Task). task_for frame port t' ∷ xs) (same_tasks frame port rest others behind) ∙ ap (λ (xs : List Task). xs ++ map (task_for frame port) rest) (sym (left frame port));
  items = items;
  lines = lines;
}

-- ---- a step that is the same for each frame

pub done_next : (w : TheWorld) (old new : SymbolicState) → advances.Done ≡ answer_to_tasks old.tasks.items → TakesStep old.tasks.items old.emitted.items new.tasks.items new.emitted.items → TellsStep old.tasks.items old.steps.items new.steps.items → 0 < length old.tasks.items → IsNextState w old new
done_next w old new answer takes tells some = by_list old.tasks.items refl answer takes tells some
  where
    by_list : (ts : List SymbolicTask) → old.tasks.items ≡ ts → advances.Done ≡ answer_to_tasks ts → TakesStep ts old.emitted.items new.tasks.items new.emitted.items → TellsStep ts old.steps.items new.steps.items → 0 < length ts → IsNextState w old new
    by_list [] first answer takes tells some = absurd (omega (arith, some))
    by_list (t ∷ rest) first answer takes tells some =
        let same : (frame : List ℕ) (port : ℕ) → row_for w frame port t ≡ chosen_row w None false frame port t = (λ frame port. rw (sym answer) refl) in
        record {
          found = None;
          expires = false;
          follows = record {
            t = t;
            rest = rest;
            first = first;
            tasks = λ frame port. (takes w frame port).0 ∙ ap (λ (r : Row). r.left ++ map (task_for frame port) rest) (same frame port);
            items = λ frame port. (takes w frame port).1 ∙ ap (λ (r : Row). items_for w.ports old.emitted.items frame port ++ r.items) (same frame port);
            lines = λ frame port. tells w frame port ∙ ap (λ (r : Row). old.steps.items ++ r.line ∷ []) (same frame port);
          };
        }

-- ---- a state of which nothing changed

module _ (w : TheWorld) (old between : SymbolicState) (tasks : between.tasks.items ≡ old.tasks.items) (emitted : between.emitted.items ≡ old.emitted.items) (steps : between.steps.items ≡ old.steps.items) where
  pub next_from : (new : SymbolicState) → IsNextState w between new → IsNextState w old new
  next_from new h = record {
    found = h.found;
    expires = h.expires;
    follows = record {
      t = h.follows.t;
      rest = h.follows.rest;
      first = sym tasks ∙ h.follows.first;
      tasks = h.follows.tasks;
      items = λ frame port. h.follows.items frame port ∙ ap (λ (es : List Emission). items_for w.ports es frame port ++ (chosen_row w h.found h.expires frame port h.follows.t).items) emitted;
      lines = λ frame port. h.follows.lines frame port ∙ ap (λ (l : List Step). l ++ (chosen_row w h.found h.expires frame port h.follows.t).line ∷ []) steps;
    };
  }

  pub states_from : (cases : List Case) → AreNextStates w between cases → AreNextStates w old cases
  states_from cases h = record { each = λ c there. next_from c.state (h.each c there); apart = h.apart }

-- ---- no two took the same steps

pub some_same : {X : Type 0} (x y : X) → Some x ≡ Some y → x ≡ y
some_same x y h = cc

module _ {X Y : Type 0} (key : X → Y) where
  abbrev DistinctBy : List X → Type 0
  DistinctBy xs = (i j : ℕ) (a b : X) → slice_get xs i ≡ Some a → slice_get xs j ≡ Some b → key a ≡ key b → i ≡ j

  one_distinct : (c : X) → DistinctBy (c ∷ [])
  one_distinct c zero zero a b at_i at_j same = refl
  one_distinct c zero (suc j) a b at_i at_j same = absurd cc
  one_distinct c (suc i) j a b at_i at_j same = absurd cc

  first_distinct : (c : X) (xs : List X) → ((k : ℕ) (d : X) → slice_get xs k ≡ Some d → key c ≡ key d → ⊥) → DistinctBy xs → DistinctBy (c ∷ xs)
  first_distinct c xs differ apart zero zero a b at_i at_j same = refl
  first_distinct c xs differ apart zero (suc j) a b at_i at_j same = absurd (differ j b at_j (ap key (some_same c a at_i) ∙ same))
  first_distinct c xs differ apart (suc i) zero a b at_i at_j same = absurd (differ i a at_i (ap key (some_same c b at_j) ∙ sym same))
  first_distinct c xs differ apart (suc i) (suc j) a b at_i at_j same = ap suc (apart i j a b at_i at_j same)

  only : (d : X) (k : ℕ) (e : X) → slice_get (d ∷ []) k ≡ Some e → d ≡ e
  only d zero e at = some_same d e at
  only d (suc k) e at = absurd cc

  two_distinct : (c d : X) → (key c ≡ key d → ⊥) → DistinctBy (c ∷ d ∷ [])
  two_distinct c d differ = first_distinct c (d ∷ []) (λ k e at same. differ (same ∙ ap key (sym (only d k e at)))) (one_distinct d)

pub one_apart : (c : Case) → HaveDistinctSteps (c ∷ [])
one_apart c = one_distinct (λ (x : Case). x.state.steps.items) c

pub two_apart : (c d : Case) → (c.state.steps.items ≡ d.state.steps.items → ⊥) → HaveDistinctSteps (c ∷ d ∷ [])
two_apart c d differ = two_distinct (λ (x : Case). x.state.steps.items) c d differ

pub last_same : {X : Type 0} (l : List X) (x y : X) → l ++ x ∷ [] ≡ l ++ y ∷ [] → x ≡ y
last_same [] x y h = let g : x ∷ [] ≡ y ∷ [] = h in cc
last_same (z ∷ l) x y h = let g : z ∷ (l ++ x ∷ []) ≡ z ∷ (l ++ y ∷ []) = h in let k : l ++ x ∷ [] ≡ l ++ y ∷ [] = cc in last_same l x y k
