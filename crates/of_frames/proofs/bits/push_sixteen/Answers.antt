use Rattle.of_frames.proofs.AddingLemmas.{halves}
use Rattle.of_frames.proofs.bits.push_sixteen.Goals as goal

pub returns : goal.returns
returns c = halves 64 64 c.args.number c.in_ok-push_eight.ensures c.in_ok-push_eight-2.ensures
