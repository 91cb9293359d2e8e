use Rattle.of_frames.proofs.AddingLemmas.{halves}
use Rattle.of_frames.proofs.bits.push_double.Goals as goal

pub returns : goal.returns
returns c = halves 16 16 c.args.double c.in_ok-push_word.ensures c.in_ok-push_word-2.ensures
