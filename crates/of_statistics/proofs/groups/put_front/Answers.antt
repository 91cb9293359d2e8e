use Rattle.of_statistics.{specs.Groups.group_fixed_part, proofs.Parts.seven_parts}
use Rattle.of_statistics.proofs.groups.put_front.Goals as goal

pub returns : goal.returns
unfolding group_fixed_part
returns c = seven_parts c.put_u64-2.result _ _ _ _ _ _ _ _ _ (rw c.size_of.ensures.size at c.in_ok-put_u16.ensures) c.in_ok-extend_from_slice.ensures.items c.in_ok-put_u32.ensures c.in_ok-put_u32-2.ensures c.in_ok-extend_from_slice-2.ensures.items c.in_ok-put_u64.ensures c.put_u64-2.ensures
