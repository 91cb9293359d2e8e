use Rattle.std.proofs.Common.{rules, ◌+◌, ◌∙◌, sym, subst}
use Rattle.of_actions.specs.declared.action.Action.TheVariants.{Output}
use Rattle.of_symbolic_run.proofs.TtlLemmas.{IsWithin, below_most, known_more, within_more}
use Rattle.of_symbolic_run.proofs.known_ttl.ttl_after_all.Goals as goal

pub after-known-requires : goal.after-known-requires
after-known-requires c = below_most c.loop-action.action-index c.loop-action.known (search rules) c.loop-action.invariant.1

pub loop-action-preserved : goal.loop-action-preserved
loop-action-preserved c = (
  c.after-known.ensures ∙ known_more c.args.actions.now c.loop-action.action-index (Output 0 0) c.loop-action.known c.loop-action-test.true c.loop-action.invariant.0,
  subst (IsWithin (c.loop-action.action-index + 1)) (sym c.after-known.ensures) (within_more c.loop-action.action-index _ c.loop-action.known c.loop-action.invariant.1),
)
