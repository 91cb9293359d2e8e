use Rattle.of_machine.proofs.Moving.{expires, ages}
use Rattle.of_machine.proofs.machine.age.Goals as goal

pub returns-in_ok-step-in-Expired-clause-ok : goal.returns-in_ok-step-in-Expired-clause-ok
returns-in_ok-step-in-Expired-clause-ok g c =
    λ w rest others. expires w g.S.StepLog.KEEPS c.args.packet.now rest others c.args.outcome.now (g.S.StepLog.list c.args.log.now) (g.S.StepLog.list c.step.new.self) c.to_controller.new.outcome c.dec_ttl.new.self c.in_ok-dec_ttl.field-0 c.in-Expired.is c.in_ok-dec_ttl.ensures.answer c.frame_is_known.ensures c.in_ok-dec_ttl.ensures.frame c.in_ok-to_controller-in-Expired.ensures c.in_ok-step-in-Expired.ensures.ok

pub returns-in_ok-step-in-Done : goal.returns-in_ok-step-in-Done
returns-in_ok-step-in-Done g c = record {
  ok = λ w rest others. ages w g.S.StepLog.KEEPS c.args.packet.now rest others c.args.outcome.now (g.S.StepLog.list c.args.log.now) (g.S.StepLog.list c.step-in-Done.new.self) c.dec_ttl.new.self c.in_ok-dec_ttl.field-0 c.in-Done.is c.in_ok-dec_ttl.ensures.answer c.frame_is_known.ensures c.in_ok-dec_ttl.ensures.frame c.in_ok-step-in-Done.ensures.ok;
  err = tt;
}
