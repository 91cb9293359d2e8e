use Rattle.of_layers.specs.Fields.{row_of}
use Rattle.of_frames.proofs.AddingLemmas.{add, last}
use Rattle.of_frames.proofs.packets.push_ends.Goals as goal

pub returns : goal.returns
unfolding row_of
returns c = add c.in_ok-push_address.ensures (last c.in_ok-push_address-2.ensures)
