use Rattle.std.proofs.Common.{List, subst, sym}
use Rattle.of_datapath.specs.{Datapath.world_of, Numbers.forwarding_of}
use Rattle.of_symbolic_run.specs.declared.frame_set.FrameSet.{FrameSet}
use Rattle.of_require.{specs.Deciding.IsSoughtInSet, specs.Deciding.IsSoughtInSets, specs.Deciding.found_so_far, proofs.ListLemmas.all_taken, proofs.ListLemmas.at_end, proofs.ListLemmas.taken_item}
use Rattle.of_require.proofs.{PacketLemmas.one_without, packets.seek_in_sets.Goals.in-NoFrame, packets.seek_in_sets.Goals.in-Undecided}
use Rattle.of_require.proofs.packets.seek_in_sets.Goals as goal

pub loop-set-preserved : goal.loop-set-preserved
loop-set-preserved g c =
    let is = IsSoughtInSet (world_of (forwarding_of c.args.datapath.now)) c.args.requirement.now c.args.lines.now c.args.steps in
    let taken = taken_item c.args.sets.now c.loop-set.set-index c.set-item.result c.loop-set-test.true c.set-item.is in
    elim c.match-branch-2.branch [
      | in-NoFrame h ↦ rw (taken, h.is_known-is) (one_without is _ c.set-item.result c.loop-set.is_known c.loop-set.invariant (rw h.in-NoFrame.is at c.in_ok-seek_in_set.ensures))
      | in-Undecided h ↦ rw (taken, h.is_known-is) (c.set-item.result, at_end _ c.set-item.result, rw h.in-Undecided.is at c.in_ok-seek_in_set.ensures)
    ]

pub returns-in-Frame : goal.returns-in-Frame
returns-in-Frame g c =
    let own = rw c.in-Frame.is at c.in_ok-seek_in_set.ensures in
    (c.set-item.result, (c.loop-set.set-index, c.loop-set-test.true, sym c.set-item.is), own)

pub returns : goal.returns
returns g c =
    let w = world_of (forwarding_of c.args.datapath.now) in
    rw c.sought_so_far.ensures
    (subst (λ (l : List FrameSet). IsSoughtInSets w c.args.requirement.now c.args.lines.now c.args.steps l (found_so_far c.loop-set.is_known)) (all_taken c.args.sets.now c.loop-set.set-index c.loop-set-test.false) c.loop-set.invariant)
