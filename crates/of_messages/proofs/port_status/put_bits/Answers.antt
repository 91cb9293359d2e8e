use Rattle.std.proofs.Common.{rules}
use Rattle.of_messages.{specs.Written.port_bits, proofs.Appended.three_parts}
use Rattle.of_messages.proofs.port_status.put_bits.Goals as goal

pub returns : goal.returns
unfolding port_bits
returns c = three_parts c.extend_from_slice.result _ _ _ _ _ c.in_ok-put_u32.ensures c.in_ok-put_u32-2.ensures (search rules)
