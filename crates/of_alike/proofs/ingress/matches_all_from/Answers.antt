use Rattle.of_alike.proofs.IngressPortLemmas.{agrees_by_port, agrees_if_whole}
use Rattle.of_alike.proofs.ingress.matches_all_from.Goals as goal

pub returns-in-InPort : goal.returns-in-InPort
returns-in-InPort c = λ yes. agrees_by_port c.args.region.now c.args.port c.args.condition.now c.in-InPort.is (rw (c.from.ensures, c.unwrap_or-bits.ensures, c.row.ensures.row) at yes)

pub returns-in_default : goal.returns-in_default
returns-in_default c = λ yes. agrees_if_whole c.args.region.now c.args.port c.args.condition.now (c.always_matches.ensures yes)
