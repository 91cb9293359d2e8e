use Rattle.of_frames.proofs.AddingLemmas.{add}
use Rattle.of_frames.proofs.packets.push_icmp.Goals as goal

pub returns : goal.returns
returns c = add c.in_ok-push_byte.ensures (add c.in_ok-push_byte-2.ensures (add c.in_ok-push_word.ensures c.in_ok-push_double.ensures))
