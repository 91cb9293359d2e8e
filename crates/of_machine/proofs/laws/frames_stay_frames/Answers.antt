use Rattle.of_machine.proofs.Growing.{all_are_frames}
use Rattle.of_machine.proofs.laws.frames_stay_frames.Goals as goal

pub returns : goal.returns
returns c = λ w p work k sound fit frame. all_are_frames w sound k p work fit frame
