use Rattle.std.proofs.Common.{[], ◌∷◌, ◌++◌, refl, ap, ◌∙◌}
use Rattle.of_machine.specs.declared.data.Step.{Step}
use Rattle.of_symbolic_run.{specs.Cases.found_flow, proofs.CaseLemmas.entered_is}
use Rattle.of_symbolic_run.proofs.state.SymbolicState.entered.Goals as goal

pub returns : goal.returns
returns c =
    let steps = c.in_ok-push.ensures.items ∙ ap (λ (s : Step). c.in_ok-state.state.steps.items ++ s ∷ []) c.lookup_step.ensures in
    entered_is c.args.table (found_flow c.args.found) c.args.self.now c.in_ok-state.state _ c.index_mut.result.now c.enter.new.self c.requires c.in_ok-state.ensures.same c.index_mut.ensures.value c.in_ok-enter.ensures refl refl steps
