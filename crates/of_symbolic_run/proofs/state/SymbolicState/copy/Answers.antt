use Rattle.std.proofs.Common.{◌∙◌, sym}
use Rattle.of_symbolic_run.proofs.RunLemmas.{copied_at}
use Rattle.of_symbolic_run.proofs.state.SymbolicState.copy.Goals as goal

pub returns-clause-at : goal.returns-clause-at
returns-clause-at c w frame port =
    copied_at w frame port c.args.self.now (record { tasks = c.in_ok-copied_tasks.field-0; emitted = c.in_ok-copied_emissions.field-0; steps = c.in_ok-copied_steps.field-0 })
    (rw (sym c.deref.ensures.value) c.in_ok-copied_tasks.ensures, c.in_ok-copied_emissions.ensures ∙ c.deref-2.ensures.value, c.in_ok-copied_steps.ensures ∙ c.deref-3.ensures.value)
