use Rattle.std.{specs.Prelude.IsTrue, proofs.Common.sym, proofs.Common.subst}
use Rattle.of_actions.specs.declared.action.Action.{Action}
use Rattle.of_symbolic_run.{specs.Rewriting.rewrites_frames, proofs.StepLemmas.is_rewriting, proofs.StepLemmas.rewriting_more}
use Rattle.of_symbolic_run.proofs.rewrites.Rewrites.push.Goals as goal

pub invariant_of-self-2 : goal.invariant_of-self-2
invariant_of-self-2 c = rw c.in_ok-push.ensures.items
    (rewriting_more c.self.inside.actions.items c.get-action.result c.self.invariant
    (is_rewriting c.get-action.result c.get-action.ensures.served (subst (λ (a : Action). IsTrue (rewrites_frames a)) (sym c.get-action.ensures.is) c.requires)))
