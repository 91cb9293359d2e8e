use Rattle.std.proofs.Common.{◌<◌, ◌≤◌, length, take_all, sym, arith}
use Rattle.of_symbolic.proofs.PartLemmas.{contains_index, matched_begun, matched_is, matched_more}
use Rattle.of_symbolic.proofs.part.Part.matched.Goals as goal

pub loop-index-init : goal.loop-index-init
loop-index-init c =
    matched_begun c.args.fields.now c.args.self.now (record { regions = c.in_ok-narrowed.field-0; lacks = c.new.result }) (rw (sym c.deref.ensures.value) c.in_ok-narrowed.ensures) c.new.ensures.items

pub unmatched-requires : goal.unmatched-requires
unmatched-requires c =
    let lacks = c.args.self.now.lacks in
    let lt : c.loop-index.index < length lacks.items = omega (arith, c.loop-index-test.true, c.len-index-end.ensures, lacks.ok.0) in
    c.requires.each c.index.result.now (contains_index lacks.items c.loop-index.index c.index.result.now c.index.ensures lt)

pub loop-index-preserved : goal.loop-index-preserved
loop-index-preserved c =
    let lacks = c.args.self.now.lacks in
    let lt : c.loop-index.index < length lacks.items = omega (arith, c.loop-index-test.true, c.len-index-end.ensures, lacks.ok.0) in
    matched_more c.args.fields.now c.args.self.now c.loop-index.index c.index.result.now c.loop-index.part c.in_ok-part.part c.index.ensures lt c.loop-index.invariant c.in_ok-part.ensures

pub returns : goal.returns
returns c =
    let lacks = c.args.self.now.lacks in
    let most : length lacks.items ≤ c.loop-index.index = omega (arith, c.loop-index-test.false, c.len-index-end.ensures, lacks.ok.0) in
    matched_is c.args.fields.now c.args.self.now c.loop-index.index c.loop-index.part (take_all c.loop-index.index lacks.items most) c.loop-index.invariant
