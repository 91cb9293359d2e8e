use Rattle.of_frames.proofs.AddingLemmas.{no_bits}
use Rattle.of_frames.proofs.packets.push_tags.Goals as goal

pub returns-in-Untagged : goal.returns-in-Untagged
returns-in-Untagged c = rw c.in-Untagged.is (no_bits c.args.out.now.items)
