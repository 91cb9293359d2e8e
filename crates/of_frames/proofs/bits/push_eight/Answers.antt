use Rattle.of_frames.proofs.AddingLemmas.{halves}
use Rattle.of_frames.proofs.bits.push_eight.Goals as goal

pub returns : goal.returns
returns c = halves 32 32 c.args.number c.in_ok-push_double.ensures c.in_ok-push_double-2.ensures
