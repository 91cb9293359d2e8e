use Rattle.std.proofs.Common.{◌≡◌, [], refl}
use Rattle.of_alike.{specs.Emitting.emitting_at, proofs.EmittingLemmas.none_if, proofs.EmittingLemmas.same_end, proofs.EmittingLemmas.same_more}
use Rattle.of_alike.proofs.sending.emit_alike_at.Goals as goal

pub loop-emission-preserved : goal.loop-emission-preserved
loop-emission-preserved c = λ others.
    let there = emitting_at c.args.ingress c.args.at in
    c.loop-emission.invariant
    (same_more c.args.at (there c.loop-emission.left.now) (there c.loop-emission.right.now) (there c.in-Some.behind.now) (there c.in-Some-next_there.rest.now) c.in-Some.emission.now c.in-Some-next_there.other.now
    c.in-Some.ensures.some.0 c.in-Some-next_there.ensures.some.0 (c.if-is_same_at.ensures refl) others)

pub returns : goal.returns
returns c = λ yes.
    let there = emitting_at c.args.ingress c.args.at in
    c.loop-emission.invariant
    (same_end c.args.at (there c.loop-emission.left.now) (there c.loop-emission.right.now) c.in_default.ensures.none
    (none_if c.next_there-2.result (there c.loop-emission.right.now ≡ []) c.is_none.result c.next_there-2.ensures.none c.is_none.ensures yes))
