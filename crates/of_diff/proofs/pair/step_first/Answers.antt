use Rattle.std.proofs.Common.{refl, inl}
use Rattle.of_datapath.specs.{Datapath.world_of, Numbers.forwarding_of}
use Rattle.of_diff.proofs.PairLemmas.{first_advanced, first_divided, first_next, one_next, state_itself}
use Rattle.of_diff.specs.{declared.pair.Pair.Pair, NextPairs.IsNextPair}
use Rattle.of_diff.proofs.pair.step_first.Goals as goal

pub returns-in-Advanced : goal.returns-in-Advanced
returns-in-Advanced g c = λ k v steps.
    let side = rw c.in-Advanced.is at c.in_ok-step_side.ensures in
    let new : Pair = record { frames = c.args.pair.frames; first = c.step_side.new.state; second = c.args.pair.second } in
    let w = world_of (forwarding_of c.args.datapath.now) in
    rw c.in_ok-one_pair-in-Advanced.ensures (first_advanced k w v c.args.pair _ refl refl side.0, one_next w v c.args.pair new (IsNextPair.first (side.1 c.requires) (state_itself c.args.pair.second)))

pub returns-in-Divided : goal.returns-in-Divided
returns-in-Divided g c = λ k v steps.
    let side = rw c.in-Divided.is at c.in_ok-step_side.ensures in
    let by = c.in_ok-pairs_by_first-in-Divided.ensures in
    (first_divided k (world_of (forwarding_of c.args.datapath.now)) v c.args.pair c.in-Divided.cases.items _ side.0 by, first_next (world_of (forwarding_of c.args.datapath.now)) v c.args.pair c.in-Divided.cases.items _ side.1 by)

pub returns : goal.returns
returns g c = λ k v steps. c.not_decided.ensures k (world_of (forwarding_of c.args.datapath.now)) v steps c.args.pair refl (λ taken. inl (rw c.in-Unknown.is at c.in_ok-step_side.ensures))
