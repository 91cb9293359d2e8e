use Rattle.std.proofs.Common.{◌%◌, arith}
use Rattle.of_layers.specs.Fields.{row_of}
use Rattle.of_frames.proofs.AddingLemmas.{add, same, tag_bits}
use Rattle.of_frames.proofs.packets.push_one_tag.Goals as goal

pub returns : goal.returns
unfolding row_of
returns c = add c.in_ok-push_word.ensures (same _ (tag_bits (c.args.numbers.now.vlan_pcp % 8) (c.args.numbers.now.vlan_vid % 4096) (omega arith)) c.in_ok-push_word-2.ensures)
