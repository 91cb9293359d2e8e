use Rattle.std.proofs.Common.{ap, subst, sym, take, ◌∙◌, ◌++◌, ◌∷◌, [], List}
use Rattle.std.proofs.lemmas.List.{take_all, take_more}
use Rattle.of_datapath.specs.{Datapath.world_of, Numbers.forwarding_of}
use Rattle.of_symbolic_run.specs.declared.frame_set.FrameSet.{FrameSet}
use Rattle.of_diff.{specs.Changing.ArePairsOf, proofs.ChangingLemmas.pairs_of_more}
use Rattle.of_diff.proofs.changing.pairs_of_sets.Goals as goal

pub loop-frames-preserved : goal.loop-frames-preserved
loop-frames-preserved g c = λ v.
    let i = c.loop-frames.frames-index in
    let item = c.frames-item.result in
    pairs_of_more (world_of (forwarding_of c.args.datapath.now)) v c.args.pair.now (take i c.args.sets.now) _ item c.loop-frames.pairs.items _
    (take_more c.args.sets.now i item c.loop-frames-test.true ∙ ap (λ (y : FrameSet). take i c.args.sets.now ++ y ∷ []) (sym c.frames-item.is)) (c.in_ok-push_cases.ensures c.if-not-branch.false) (c.loop-frames.invariant v)

pub returns : goal.returns
returns g c = λ v. subst (λ (s : List FrameSet). ArePairsOf (world_of (forwarding_of c.args.datapath.now)) v c.args.pair.now s c.loop-frames.pairs.items) (take_all c.loop-frames.frames-index c.args.sets.now c.loop-frames-test.false) (c.loop-frames.invariant v)
