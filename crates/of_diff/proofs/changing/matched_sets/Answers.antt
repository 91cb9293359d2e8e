use Rattle.std.proofs.Common.{List, subst, sym}
use Rattle.of_oxm.specs.declared.match_field.MatchField.{MatchField}
use Rattle.of_symbolic_run.specs.FrameSets.{AreFramesMatching}
use Rattle.of_diff.proofs.ChangingLemmas.{sets_begin, sets_end, sets_more}
use Rattle.of_diff.proofs.changing.matched_sets.Goals as goal

pub matching-requires : goal.matching-requires
matching-requires c = rw c.deref.ensures.value (c.requires c.fields-item.result (c.loop-fields.fields-index, c.loop-fields-test.true, sym c.fields-item.is))

pub without-requires : goal.without-requires
without-requires c = c.requires c.fields-item.result (c.loop-fields.fields-index, c.loop-fields-test.true, sym c.fields-item.is)

pub loop-fields-init : goal.loop-fields-init
loop-fields-init c = sets_begin c.args.frames c.args.asked.now c.new-sets.result.items c.new-sets.ensures.items

pub loop-fields-preserved : goal.loop-fields-preserved
loop-fields-preserved c =
    sets_more c.args.frames c.loop-fields.rest c.in_ok-matching.field-0 c.in_ok-rest.rest c.args.asked.now c.loop-fields.fields-index c.fields-item.result c.loop-fields.sets.items c.push_set.new.sets.items c.loop-fields-test.true c.fields-item.is
    (subst (λ (m : List MatchField). AreFramesMatching m c.loop-fields.rest c.in_ok-matching.field-0) c.deref.ensures.value c.in_ok-matching.ensures) c.in_ok-rest.ensures c.in_ok-push_set.ensures c.loop-fields.invariant

pub returns : goal.returns
returns c = sets_end c.args.frames c.loop-fields.rest c.args.asked.now c.loop-fields.fields-index c.loop-fields.sets.items c.loop-fields-test.false c.loop-fields.invariant
