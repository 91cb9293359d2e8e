-- The parts are written in the order of the definition.
use Rattle.of_messages.{specs.Written.flow_removed_fixed_part, proofs.Appended.nine_parts}
use Rattle.of_messages.proofs.writing.put_flow_removed.Goals as goal

pub returns : goal.returns
unfolding flow_removed_fixed_part
returns c =
    rw (← c.number.ensures)
    (nine_parts c.put_u64-3.result _ _ _ _ _ _ _ _ _ _ _
    c.in_ok-put_u64.ensures c.in_ok-put_u16.ensures c.in_ok-extend_from_slice.ensures.items
    c.in_ok-put_u32.ensures c.in_ok-put_u32-2.ensures c.in_ok-put_u16-2.ensures c.in_ok-put_u16-3.ensures
    c.in_ok-put_u64-2.ensures c.put_u64-3.ensures)
