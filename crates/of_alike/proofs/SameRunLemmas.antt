-- Switches that do the same from table 0 on have the same runs.
use Rattle.std.proofs.Common.{◌≡◌, ℕ, zero, suc, ◌++◌, List, [], ◌∷◌, refl, sym, ap, subst, ◌∙◌, arith}
use Rattle.of_ports.specs.declared.port.Port.{Port}
use Rattle.of_machine.specs.Runs.{Machine, after, first_step, starting, step}
use Rattle.of_machine.specs.{TheWorld.TheWorld, Rows.Lookup, Rows.Task, Rows.entering, Sound.IsSound}
use Rattle.of_symbolic_run.specs.{declared.state.SymbolicState.SymbolicState, States.IsAt, States.items_for}
use Rattle.of_alike.{specs.Agreeing.AgreeFrom, specs.Agreeing.AllFrom, specs.Agreeing.TaskFrom, proofs.Agreeing.IsOnward, proofs.Agreeing.all_both, proofs.Agreeing.rows_agree}
use Rattle.of_alike.proofs.AgreeingRuns.{from_sound}

-- both have the same packets, and gave the same
record AreSameMachines (m k : Machine) : Type 0 where
  pub tasks : m.tasks ≡ k.tasks
  pub items : m.items ≡ k.items
  pub lines : m.lines ≡ k.lines
  pub from : AllFrom 0 m.tasks

module _ (w v : TheWorld) (agree : AgreeFrom 0 w v) (onward : IsOnward 0 w) where
  first_same : (m k : Machine) → m.items ≡ k.items → m.lines ≡ k.lines → (ts : List Task) → m.tasks ≡ ts → k.tasks ≡ ts → AllFrom 0 ts → AreSameMachines (first_step w m ts) (first_step v k ts)
  first_same m k items lines [] one two h = record { tasks = one ∙ sym two; items = items; lines = lines; from = subst (AllFrom 0) (sym one) h }
  first_same m k items lines (t ∷ others) one two h =
      let r = rows_agree 0 w v agree onward t.packet t.work h.0.set h.0.work in
      record {
        tasks = ap (λ (l : List Task). l ++ others) r.left;
        items = rw (items, r.items) refl;
        lines = rw (lines, r.line) refl;
        from = all_both (TaskFrom 0) _ _ r.from h.1;
      }

  step_same : (m k : Machine) → AreSameMachines m k → AreSameMachines (step w m) (step v k)
  unfolding step
  step_same m k s = subst (λ (ts : List Task). AreSameMachines (first_step w m m.tasks) (first_step v k ts)) s.tasks (first_same m k s.items s.lines m.tasks refl (sym s.tasks) s.from)

  after_same : (i : ℕ) (m : Machine) → AllFrom 0 m.tasks → AreSameMachines (after w i m) (after v i m)
  unfolding after
  after_same zero m h = record { tasks = refl; items = refl; lines = refl; from = h }
  after_same (suc i) m h = step_same (after w i m) (after v i m) (after_same i m h)

begins_from : (frame : List ℕ) (port : ℕ) → AllFrom 0 (starting (entering frame port) (Lookup 0 ∷ [])).tasks
begins_from frame port = (record { set = tt; work = (omega arith, tt) }, tt)

module _ (w v : TheWorld) (sound : IsSound w) (agree : AgreeFrom 0 w v) (ports : w.ports ≡ v.ports) (frame : List ℕ) (port : ℕ) (s : SymbolicState) where
  same : (i : ℕ) → AreSameMachines (after w i (starting (entering frame port) (Lookup 0 ∷ []))) (after v i (starting (entering frame port) (Lookup 0 ∷ [])))
  same i = after_same w v agree (from_sound 0 w sound) i (starting (entering frame port) (Lookup 0 ∷ [])) (begins_from frame port)

  -- a state says the same about both
  pub at_other : IsAt w frame port s → IsAt v frame port s
  at_other at = let h = same at.steps in record { steps = at.steps; tasks = sym h.tasks ∙ at.tasks; items = sym h.items ∙ (at.items ∙ ap (λ (ps : List Port). items_for ps s.emitted.items frame port) ports); lines = sym h.lines ∙ at.lines }

  pub at_one : IsAt v frame port s → IsAt w frame port s
  at_one at = let h = same at.steps in record { steps = at.steps; tasks = h.tasks ∙ at.tasks; items = h.items ∙ (at.items ∙ ap (λ (ps : List Port). items_for ps s.emitted.items frame port) (sym ports)); lines = h.lines ∙ at.lines }
