use Rattle.std.proofs.Common.{◌≡◌, ℕ, subst}
use Rattle.of_datapath.specs.{Datapath.world_of, Numbers.forwarding_of}
use Rattle.of_paths.proofs.SoFarLemmas.{ended_received, ends, first_of_none, no_length, running_begins, running_more}
use Rattle.of_paths.{specs.Reasons.AreLeftAfter, specs.SoFar.IsNextOf, specs.declared.stepping.Next.TheVariants.Ended, proofs.TakenLemmas.all_taken, proofs.TakenLemmas.at_most}
use Rattle.of_paths.proofs.dividing.paths.Goals as goal

pub loop-left-init : goal.loop-left-init
loop-left-init g c =
    let w = (world_of (forwarding_of c.args.datapath.now)) in
    let first = c.in_ok-first_case.field-0 in
    let is = c.in_ok-first_case.ensures in
    rw (first_of_none c.new-cases.result.items c.push.new.self.items first c.new-cases.ensures.items c.in_ok-push.ensures.items)
    (running_begins c.args.merging w c.args.within.now c.args.steps first _ c.new.ensures.items c.new-2.ensures.items (record { runs = is.holds; begins = is.begins; matched = is.within; all = is.all }))

pub returns-in_default : goal.returns-in_default
returns-in_default g c =
    let none = no_length c.loop-left.cases c.in_default.ensures.cases.0 in
    ends c.args.merging (world_of (forwarding_of c.args.datapath.now)) c.args.within.now c.args.steps c.loop-left.found (rw none at c.loop-left.invariant.so_far)

pub put_next-requires : goal.put_next-requires
put_next-requires g c =
    let w = (world_of (forwarding_of c.args.datapath.now)) in
    let run = rw c.in-Some.ensures.items at c.loop-left.invariant in
    λ path is.
    let own : IsNextOf w c.in-Some.case (Ended path) = subst (IsNextOf w c.in-Some.case) is c.in_ok-next.ensures in
    ended_received c.args.merging w c.args.within.now c.args.steps c.pop.new.self.items c.in-Some.case c.loop-left.found run.so_far path own.0

pub loop-left-preserved : goal.loop-left-preserved
loop-left-preserved g c =
    let w = (world_of (forwarding_of c.args.datapath.now)) in
    let within = c.args.within.now in
    let old = c.in-Some.case in
    let run = rw c.in-Some.ensures.items at c.loop-left.invariant in
    running_more c.args.merging w within c.args.steps c.loop-left.left _ c.put_next.new.cases.items c.loop-left.found _ c.loop-left-test.true run
    (c.in_ok-put_next.ensures.taken within run.taken old c.in_ok-next.ensures run.after)
    (c.in_ok-put_next.ensures.so_far within run.taken old (at_most run.taken c.loop-left.left c.args.steps run.counted) c.in_ok-next.ensures run.after run.so_far)

pub returns : goal.returns
returns g c =
    let w = (world_of (forwarding_of c.args.datapath.now)) in
    let within = c.args.within.now in
    let run = c.loop-left.invariant in
    let all : run.taken ≡ c.args.steps = all_taken run.taken c.loop-left.left c.args.steps run.counted c.loop-left-test.false in
    c.in_ok-leave_undecided.ensures c.args.merging w within c.args.steps (subst (λ (n : ℕ). AreLeftAfter w within n c.loop-left.cases.items) all run.after) run.so_far
