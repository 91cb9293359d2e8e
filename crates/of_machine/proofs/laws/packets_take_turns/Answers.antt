use Rattle.of_machine.proofs.Turns.{takes_turn}
use Rattle.of_machine.proofs.laws.packets_take_turns.Goals as goal

pub returns : goal.returns
returns c = takes_turn
