use Rattle.std.proofs.Common.{◌∙◌, ◌++◌, ◌∷◌, [], List, ap, sym, subst}
use Rattle.std.specs.Global.{Vec}
use Rattle.of_oxm.specs.declared.match_field.MatchField.{MatchField}
use Rattle.of_symbolic_run.specs.declared.frame_set.FrameSet.{FrameSet}
use Rattle.of_require.{specs.Deciding.AreDividedByAll, proofs.DividingLemmas.by_none, proofs.DividingLemmas.by_one_more, proofs.ListLemmas.taken_item}
use Rattle.of_require.proofs.packets.divide_by_all.Goals as goal

pub loop-fields-init : goal.loop-fields-init
loop-fields-init c = subst (AreDividedByAll [] c.args.frames) (sym (c.in_ok-push.ensures.items ∙ ap (λ (l : List FrameSet). l ++ c.args.frames ∷ []) c.new-sets.ensures.items)) (by_none c.args.frames)

pub divide-requires : goal.divide-requires
divide-requires c = c.requires c.fields-item.result (c.loop-fields.fields-index, c.loop-fields-test.true, sym c.fields-item.is)

pub loop-fields-preserved : goal.loop-fields-preserved
loop-fields-preserved c =
    subst (λ (l : List (Vec MatchField)). AreDividedByAll l c.args.frames c.in_ok-sets.sets.items) (sym (taken_item c.args.lists.now c.loop-fields.fields-index c.fields-item.result c.loop-fields-test.true c.fields-item.is))
    (by_one_more _ c.fields-item.result c.args.frames c.loop-fields.sets.items c.in_ok-sets.sets.items c.loop-fields.invariant c.in_ok-sets.ensures)
