use Rattle.std.proofs.Common.{None, sym, ◌∙◌, arith}
use Rattle.of_rewrite.proofs.Framing.{is_aged, is_last, is_less}
use Rattle.of_rewrite.proofs.rewrite.dec_ttl.Goals as goal

pub returns-in-None-clause-frame : goal.returns-in-None-clause-frame
returns-in-None-clause-frame c = is_aged c.args.bytes.now c.args.bytes.now None (sym c.in-None.is ∙ c.ttl_in.ensures.value) c.ttl_in.ensures.frame

pub returns-in-Some-eq0-clause-frame : goal.returns-in-Some-eq0-clause-frame
returns-in-Some-eq0-clause-frame c =
    is_last c.args.bytes.now c.in-Some-eq0.field-0 (sym c.in-Some-eq0.is ∙ c.ttl_in.ensures.value) (omega (arith, c.in-Some-eq0.field-0-test)) c.ttl_in.ensures.frame

pub returns-in-Some-clause-frame : goal.returns-in-Some-clause-frame
returns-in-Some-clause-frame c =
    is_less c.args.bytes.now c.set_ttl.new.bytes c.in-Some.old (sym c.in-Some.is ∙ c.ttl_in.ensures.value) (omega arith) c.set_ttl.ensures.frame
