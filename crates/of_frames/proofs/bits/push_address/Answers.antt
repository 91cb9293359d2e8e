use Rattle.of_frames.proofs.AddingLemmas.{halves}
use Rattle.of_frames.proofs.bits.push_address.Goals as goal

pub returns : goal.returns
returns c = halves 16 32 c.args.address c.in_ok-push_word.ensures c.in_ok-push_double.ensures
