use Rattle.std.proofs.Common.{arith}
use Rattle.of_oxm.proofs.Walk.{goes_on}
use Rattle.of_oxm.proofs.reading.read_fields.Goals as goal

pub loop-rest-preserved : goal.loop-rest-preserved
loop-rest-preserved c =
    goes_on c.args.body.now c.loop-rest.rest.now c.split_at.result.1.now c.loop-rest.fields.items c.deref.result.now c.push.new.self.items c.in-Ok.field (λ i. omega (arith, c.type_inv.body i)) c.loop-rest.invariant
    c.deref.ensures.value c.in-Ok.ensures.0 c.in-Ok.ensures.1 c.in-Ok.ensures.2 c.split_at.ensures.back c.in_ok-push-in-Ok.ensures.items
