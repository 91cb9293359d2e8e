use Rattle.std.proofs.Common.{Some, ap}
use Rattle.of_switch.proofs.Handling.{handled_done, handled_answered}
use Rattle.of_switch.proofs.switch.Switch.answer.Goals as goal

pub returns-in-Ok-clause-came : goal.returns-in-Ok-clause-came
returns-in-Ok-clause-came g c =
    rw (← c.self-in-Read.view_is, c.in-Read.is) (ap Some (handled_done c.in-Read.xid c.in-Read.message _ _ _ c.in-Ok.effects.items c.in-Ok.ensures))

pub returns-in_ok-refused-in-Err-Refused-clause-came : goal.returns-in_ok-refused-in-Err-Refused-clause-came
returns-in_ok-refused-in-Err-Refused-clause-came g c =
    rw (← c.self-in-Read.view_is, c.in-Read.is)
    (ap Some (handled_answered c.in-Read.xid c.in-Read.message _ _ _ c.in-Err-Refused.code c.in_ok-refused-in-Err-Refused.field-0.items (rw c.in-Err-Refused.field-0-is at c.in-Err-Refused.ensures) c.in_ok-refused-in-Err-Refused.ensures))
