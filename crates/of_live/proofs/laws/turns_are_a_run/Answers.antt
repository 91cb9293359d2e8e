use Rattle.of_live.proofs.Recording.{state_is, effects_are}
use Rattle.of_live.proofs.laws.turns_are_a_run.Goals as goal

pub returns-clause-state : goal.returns-clause-state
returns-clause-state c = state_is

pub returns-clause-effects : goal.returns-clause-effects
returns-clause-effects c = effects_are
