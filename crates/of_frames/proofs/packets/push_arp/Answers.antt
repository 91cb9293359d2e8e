use Rattle.of_layers.specs.Fields.{row_of}
use Rattle.of_frames.proofs.AddingLemmas.{add, last, low}
use Rattle.of_frames.proofs.packets.push_arp.Goals as goal

pub returns : goal.returns
unfolding row_of
returns c =
    let n = c.args.numbers.now in
    add c.in_ok-push_word.ensures
    (add c.in_ok-push_word-2.ensures
    (add c.in_ok-push_byte.ensures
    (add c.in_ok-push_byte-2.ensures
    (add (low 16 n.arp_op c.in_ok-push_word-3.ensures)
    (add c.in_ok-push_address.ensures
    (add (low 32 n.arp_spa c.in_ok-push_double.ensures)
    (add c.in_ok-push_address-2.ensures
    (last (low 32 n.arp_tpa c.in_ok-push_double-2.ensures)))))))))
