use Rattle.of_machine.proofs.Growing.{all_are_short}
use Rattle.of_machine.proofs.laws.frames_stay_short.Goals as goal

pub returns : goal.returns
returns c = λ w p work most k sound fit low. all_are_short w sound most k p work fit low
