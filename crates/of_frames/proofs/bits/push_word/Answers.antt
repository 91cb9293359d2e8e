use Rattle.of_frames.proofs.AddingLemmas.{halves}
use Rattle.of_frames.proofs.bits.push_word.Goals as goal

pub returns : goal.returns
returns c = halves 8 8 c.args.word c.in_ok-push_byte.ensures c.in_ok-push_byte-2.ensures
