use Rattle.std.proofs.Common.{arith}
use Rattle.of_oxm.proofs.PortMatch.{in_port_is_match}
use Rattle.of_oxm.proofs.flow_match.Match.of_in_port.Goals as goal

pub invariant_of-result : goal.invariant_of-result
invariant_of-result c = rw (c.in_ok-push.ensures.items, c.new-fields.ensures.items, c.from.ensures) (in_port_is_match c.args.port (omega arith))
