use Rattle.std.proofs.Common.{◌≡◌, false, rules}
use Rattle.of_messages.{specs.Hellos.is_bitmap, specs.Hellos.no_element, proofs.HelloLemmas.at_start, proofs.HelloLemmas.goes_on}
use Rattle.of_messages.proofs.hello.bitmap_in.Goals as goal

pub loop-rest-init : goal.loop-rest-init
loop-rest-init c = at_start c.args.body.now

pub loop-rest-preserved : goal.loop-rest-preserved
loop-rest-preserved c =
    let some : no_element c.loop-rest.rest.now ≡ false = search rules in
    let other : is_bitmap c.element_at-element.result.now ≡ false = search rules in
    goes_on c.args.body.now c.loop-rest.rest.now _ _ c.loop-rest.invariant some c.element_at-element.ensures other c.after_element-rest.ensures.rest
