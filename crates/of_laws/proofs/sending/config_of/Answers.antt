use Rattle.std.proofs.{Common.refl, Common.ap, Common.arith, lemmas.Result.err_from_is_err_and}
use Rattle.of_laws.{specs.Sending.config_by, specs.Sending.config_from, proofs.SendingLemmas.failed_here}
use Rattle.of_laws.proofs.sending.config_of.Goals as goal

pub loop-message-init : goal.loop-message-init
unfolding config_by
loop-message-init c = record { place = refl; ready = c.in-Ok.ensures.ready; gives = ap (config_from 0 c.args.messages.now) c.in-Ok.ensures.switch }

pub returns-in_err-take-clause-failed : goal.returns-in_err-take-clause-failed
returns-in_err-take-clause-failed c =
    let p = err_from_is_err_and c.from_residual.result c.from_residual.ensures.1 in
    rw (p.1, p.2) (failed_here c.args.messages.now c.loop-message.message-index c.loop-message.place c.message-item.result c.as_slice.result.now c.loop-message.switch c.in_err-take.field-0.0 (omega arith) c.message-item.is c.as_slice.ensures c.loop-message.invariant.gives c.in_err-take.ensures.failed)
