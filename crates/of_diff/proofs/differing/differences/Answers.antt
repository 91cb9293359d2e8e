use Rattle.std.proofs.{Common.◌≡◌, Common.ℕ, Common.sym, Common.subst, lemmas.List.Elements.Contains-push}
use Rattle.of_datapath.specs.{Datapath.world_of, Numbers.forwarding_of}
use Rattle.of_diff.proofs.FindingLemmas.{all_taken, at_most, ends, first_of_none, no_length, running_begins, running_more}
use Rattle.of_diff.{specs.Reasons.ArePairsAfter, proofs.SameLemmas.agree_from_first, proofs.SameLemmas.nothing_differs}
use Rattle.of_diff.proofs.differing.differences.Goals as goal

pub returns-then-agree_in_all-clause-some : goal.returns-then-agree_in_all-clause-some
returns-then-agree_in_all-clause-some g c =
    let f = forwarding_of c.args.first.now in
    let s = forwarding_of c.args.second.now in
    let agree = agree_from_first f s c.in_ok-agreement.field-0 c.in_ok-agreement.ensures.agreement (c.agree_in_all.ensures.0 c.if-agree_in_all.true) in
    nothing_differs c.args.compared (world_of f) (world_of s) c.known_world.ensures c.known_world-then-agree_in_all.ensures agree c.args.steps _
    (rw (sym c.port_list.ensures, sym c.port_list-2.ensures) (c.have_same_ports.ensures.0 c.if-not-have_same_ports.false)) c.new.ensures.items c.new-2.ensures.items

pub loop-left-init : goal.loop-left-init
loop-left-init g c =
    let w = world_of (forwarding_of c.args.first.now) in
    let v = world_of (forwarding_of c.args.second.now) in
    let pair = c.in_ok-first_pair.field-0 in
    let is = c.in_ok-first_pair.ensures in
    rw (first_of_none c.new-pairs.result.items c.push.new.self.items pair c.new-pairs.ensures.items c.in_ok-push.ensures.items)
    (running_begins c.args.compared w v c.args.steps pair _ c.new.ensures.items c.new-2.ensures.items (record { runs = is.holds v; first = is.first; second = is.second; all = is.all }))

pub returns-in_default-clause-some : goal.returns-in_default-clause-some
returns-in_default-clause-some g c =
    let none = no_length c.loop-left.pairs c.in_default.ensures.cases.0 in
    ends c.args.compared (world_of (forwarding_of c.args.first.now)) (world_of (forwarding_of c.args.second.now)) c.args.steps c.loop-left.so_far
    (rw (sym c.port_list.ensures, sym c.port_list-2.ensures) (c.have_same_ports.ensures.0 c.if-not-have_same_ports.false)) (rw none at c.loop-left.invariant.so_far)

pub step_pair-requires-clause-agreement : goal.step_pair-requires-clause-agreement
step_pair-requires-clause-agreement g c = c.in_ok-agreement.ensures.agreement

pub step_pair-requires-clause-received : goal.step_pair-requires-clause-received
step_pair-requires-clause-received g c =
    let run = rw c.in-Some.ensures.items at c.loop-left.invariant in
    (run.so_far.hold c.in-Some.pair (Contains-push c.pop.new.self.items c.in-Some.pair)).received

pub loop-left-preserved : goal.loop-left-preserved
loop-left-preserved g c =
    let k = c.args.compared in
    let w = world_of (forwarding_of c.args.first.now) in
    let v = world_of (forwarding_of c.args.second.now) in
    let steps = c.args.steps in
    let pair = c.in-Some.pair in
    let run = rw c.in-Some.ensures.items at c.loop-left.invariant in
    let holds = run.so_far.hold pair (Contains-push c.pop.new.self.items pair) in
    running_more k w v steps c.loop-left.left _ c.put.new.pairs.items c.loop-left.so_far _ c.loop-left-test.true run
    (c.in_ok-put.ensures.taken k w v steps run.taken pair c.in_ok-next.ensures holds run.after)
    (c.in_ok-put.ensures.so_far k w v steps run.taken pair (at_most run.taken c.loop-left.left steps run.counted) c.in_ok-next.ensures run.after run.so_far)

pub returns-clause-some : goal.returns-clause-some
returns-clause-some g c =
    let k = c.args.compared in
    let w = world_of (forwarding_of c.args.first.now) in
    let v = world_of (forwarding_of c.args.second.now) in
    let steps = c.args.steps in
    let run = c.loop-left.invariant in
    let all : run.taken ≡ steps = all_taken run.taken c.loop-left.left steps run.counted c.loop-left-test.false in
    c.in_ok-give_up.ensures k w v steps (rw (sym c.port_list.ensures, sym c.port_list-2.ensures) (c.have_same_ports.ensures.0 c.if-not-have_same_ports.false))
    (subst (λ (n : ℕ). ArePairsAfter k w v steps n c.loop-left.pairs.items) all run.after) run.so_far
