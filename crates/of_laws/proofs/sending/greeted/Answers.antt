use Rattle.std.proofs.Common.{sym, ◌∙◌, ap}
use Rattle.of_switch.specs.State.{State}
use Rattle.of_laws.proofs.SendingLemmas.{greeted_is, greets}
use Rattle.of_laws.proofs.sending.greeted.Goals as goal

pub returns-clause-switch : goal.returns-clause-switch
returns-clause-switch c = greets _ _ _ _ _ _ c.in_ok-switch.ensures c.in_ok-connected.ensures c.in_ok-feed.ensures c.in_ok-next.ensures.0 ∙ sym greeted_is

pub returns-clause-ready : goal.returns-clause-ready
returns-clause-ready c = ap (λ (s : State). s.connection) (greets _ _ _ _ _ _ c.in_ok-switch.ensures c.in_ok-connected.ensures c.in_ok-feed.ensures c.in_ok-next.ensures.0)
