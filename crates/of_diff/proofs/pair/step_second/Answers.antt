use Rattle.std.proofs.Common.{refl, inr}
use Rattle.of_datapath.specs.{Datapath.world_of, Numbers.forwarding_of}
use Rattle.of_diff.proofs.PairLemmas.{second_advanced, second_divided, second_next, one_next, state_itself}
use Rattle.of_diff.specs.{declared.pair.Pair.Pair, NextPairs.IsNextPair}
use Rattle.of_diff.proofs.pair.step_second.Goals as goal

pub returns-in-Advanced : goal.returns-in-Advanced
returns-in-Advanced g c = λ k w steps.
    let side = rw c.in-Advanced.is at c.in_ok-step_side.ensures in
    let new : Pair = record { frames = c.args.pair.frames; first = c.args.pair.first; second = c.step_side.new.state } in
    let v = world_of (forwarding_of c.args.datapath.now) in
    rw c.in_ok-one_pair-in-Advanced.ensures (second_advanced k w v c.args.pair _ refl refl side.0, one_next w v c.args.pair new (IsNextPair.second (state_itself c.args.pair.first) (side.1 c.requires)))

pub returns-in-Divided : goal.returns-in-Divided
returns-in-Divided g c = λ k w steps.
    let side = rw c.in-Divided.is at c.in_ok-step_side.ensures in
    let by = c.in_ok-pairs_by_second-in-Divided.ensures in
    (second_divided k w (world_of (forwarding_of c.args.datapath.now)) c.args.pair c.in-Divided.cases.items _ side.0 by, second_next w (world_of (forwarding_of c.args.datapath.now)) c.args.pair c.in-Divided.cases.items _ side.1 by)

pub returns : goal.returns
returns g c = λ k w steps. c.not_decided.ensures k w (world_of (forwarding_of c.args.datapath.now)) steps c.args.pair refl (λ taken. inr (rw c.in-Unknown.is at c.in_ok-step_side.ensures))
