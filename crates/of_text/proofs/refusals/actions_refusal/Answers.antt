use Rattle.std.{specs.List.flat_map, proofs.Common.Some, proofs.Common.None, proofs.Common.sym, proofs.Common.◌∙◌, proofs.lemmas.List.at_drop_all}
use Rattle.of_wire.specs.Refusals.{first_of}
use Rattle.of_text.{specs.Refusals.text_action_refusals, proofs.RefusalLemmas.next_at}
use Rattle.of_text.proofs.refusals.actions_refusal.Goals as goal

pub returns-in-Some : goal.returns-in-Some
returns-in-Some c = sym (next_at text_action_refusals c.args.actions.now c.loop-action.action-index _ (Some c.in-Some.code) c.loop-action-test.true c.in-Some.ensures c.loop-action.invariant)

pub loop-action-preserved : goal.loop-action-preserved
loop-action-preserved c = next_at text_action_refusals c.args.actions.now c.loop-action.action-index _ None c.loop-action-test.true c.in_default.ensures c.loop-action.invariant

pub returns : goal.returns
returns c = sym (c.loop-action.invariant ∙ at_drop_all (λ xs. first_of (flat_map text_action_refusals xs)) c.args.actions.now c.loop-action.action-index c.loop-action-test.false)
