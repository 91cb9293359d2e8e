use Rattle.std.{specs.Prelude.replicate, proofs.Common.[], proofs.Common.◌∷◌, proofs.Common.◌++◌}
use Rattle.byteorder.specs.Endian.{big_bytes}
use Rattle.of_messages.{specs.Written.command_number, specs.Written.flow_mod_fixed_part, proofs.Appended.both_halves}
use Rattle.of_messages.proofs.flow_mod_writing.put_front.Goals as goal

pub returns : goal.returns
unfolding flow_mod_fixed_part
returns c =
    let m = c.args.m.now in
    both_halves c.put_tail.result c.args.out.now.items c.put_tail.new.out.items (big_bytes 8 m.cookie) (big_bytes 8 m.cookie_mask) (m.table ∷ command_number m.command ∷ []) (big_bytes 2 m.idle_timeout) (big_bytes 2 m.hard_timeout)
    (big_bytes 2 m.priority ++ (big_bytes 4 m.buffer ++ (big_bytes 4 m.out_port ++ (big_bytes 4 m.out_group ++ (big_bytes 2 m.flags ++ replicate 2 0)))))
    c.in_ok-put_head.ensures c.put_tail.ensures
