use Rattle.std.proofs.Common.{◌≡◌, drop}
use Rattle.of_action_set.specs.Sets.{with_actions}
use Rattle.of_action_set.proofs.action_set.ActionSet.write.Given as goal

abbrev pub invariant-loop-action : goal.invariant-loop-action
invariant-loop-action l = with_actions l.self (drop l.action-index l.actions) ≡ with_actions l.initial.self l.actions
