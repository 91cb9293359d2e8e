use Rattle.of_switch.{specs.Steps.fed, proofs.Draining.drained_ends, proofs.InTurn.chunk_in_turn}
use Rattle.of_switch.proofs.laws.chunk_handles_its_messages.Goals as goal

pub returns-clause-in_turn : goal.returns-clause-in_turn
returns-clause-in_turn c = chunk_in_turn

pub returns-clause-all : goal.returns-clause-all
returns-clause-all c = λ chunk s. drained_ends (fed chunk s)
