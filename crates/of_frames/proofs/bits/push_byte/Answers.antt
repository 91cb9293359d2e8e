use Rattle.of_frames.proofs.AddingLemmas.{one_byte}
use Rattle.of_frames.proofs.bits.push_byte.Goals as goal

pub returns : goal.returns
returns c = one_byte _ _ c.args.byte c.in_ok-push.ensures.items
