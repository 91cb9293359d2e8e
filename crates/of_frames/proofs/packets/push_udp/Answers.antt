use Rattle.of_layers.specs.Fields.{row_of}
use Rattle.of_frames.proofs.AddingLemmas.{add, last, low}
use Rattle.of_frames.proofs.packets.push_udp.Goals as goal

pub returns : goal.returns
unfolding row_of
returns c =
    let n = c.args.numbers.now in
    add (low 16 n.udp_src c.in_ok-push_word.ensures)
    (add (low 16 n.udp_dst c.in_ok-push_word-2.ensures)
    (add c.in_ok-push_word-3.ensures
    (last c.in_ok-push_word-4.ensures)))
