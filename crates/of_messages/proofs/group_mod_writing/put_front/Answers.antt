use Rattle.of_messages.{specs.CanonicalGroups.group_add_fixed_part, proofs.Appended.three_parts}
use Rattle.of_messages.proofs.group_mod_writing.put_front.Goals as goal

pub returns : goal.returns
unfolding group_add_fixed_part
returns c =
    rw (← c.number.ensures)
    (three_parts c.put_u32.result _ _ _ _ _ c.in_ok-extend_from_slice.ensures.items c.in_ok-extend_from_slice-2.ensures.items c.put_u32.ensures)
