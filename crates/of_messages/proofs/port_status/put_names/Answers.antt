use Rattle.std.proofs.Common.{rules}
use Rattle.of_messages.{specs.Written.port_names, proofs.Appended.five_or}
use Rattle.of_messages.proofs.port_status.put_names.Goals as goal

pub returns-clause-text : goal.returns-clause-text
unfolding port_names
returns-clause-text c = five_or c.extend_from_slice-4.result _ _ _ _ _ _ _ c.in_ok-put_u32.ensures c.in_ok-extend_from_slice.ensures.items c.in_ok-extend_from_slice-2.ensures.items c.in_ok-extend_from_slice-3.ensures.items (search rules)
