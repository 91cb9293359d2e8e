use Rattle.of_messages.{specs.Written.packet_in_fixed_part, proofs.Appended.four_parts}
use Rattle.of_messages.proofs.writing.put_packet_in.Goals as goal

pub returns : goal.returns
unfolding packet_in_fixed_part
returns c =
    rw (← c.number.ensures)
    (four_parts c.put_u64.result _ _ _ _ _ _ c.in_ok-put_u32.ensures c.in_ok-put_u16.ensures c.in_ok-extend_from_slice.ensures.items c.put_u64.ensures)
