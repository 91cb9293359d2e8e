use Rattle.std.proofs.Common.{sym, ◌∙◌, ap, arith}
use Rattle.of_laws.{specs.Sending.error_code_in, proofs.SendingLemmas.error_here}
use Rattle.of_laws.proofs.sending.error_among.Goals as goal

pub returns-in-loop-effect : goal.returns-in-loop-effect
returns-in-loop-effect c =
    error_here c.args.effects.now c.loop-effect.effect-index c.effect-item.result c.in-Answer.message c.in-Some.code (omega arith) c.effect-item.is c.in-Answer.is
    (ap error_code_in (sym c.as_slice.ensures) ∙ (sym c.code_of.ensures ∙ c.in-Some.is)) c.loop-effect.invariant
