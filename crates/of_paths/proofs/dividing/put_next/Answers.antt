use Rattle.std.proofs.Common.{refl, subst, sym}
use Rattle.of_datapath.specs.{Datapath.world_of, Numbers.forwarding_of}
use Rattle.of_symbolic_run.proofs.GroupedLemmas.{if_ok}
use Rattle.of_paths.proofs.SoFarLemmas.{always_ok, last_is_undecided, on_appended, put_cases, put_ended, put_undecided, reversed_cases}
use Rattle.of_paths.{specs.Reasons.IsReason, proofs.TakenLemmas.step_ended, proofs.TakenLemmas.step_taken, proofs.TakenLemmas.step_unknown}
use Rattle.of_paths.proofs.dividing.put_next.Goals as goal

pub returns-in-Cases-clause-taken : goal.returns-in-Cases-clause-taken
returns-in-Cases-clause-taken g c =
    let w = world_of (forwarding_of c.args.datapath.now) in
    let more = c.reverse.new.self.items in
    on_appended c.append.result c.append.new.self.items c.args.cases.now.items more _ c.append.ensures.items
    (λ is within taken old next left.
    let own = rw c.in-Cases.is at next in
    rw (is, c.reverse.ensures.items) (step_taken w within taken c.args.cases.now.items old left c.in-Cases.more.items own.0 own.1))

pub returns-in-Cases-clause-so_far : goal.returns-in-Cases-clause-so_far
returns-in-Cases-clause-so_far g c =
    let w = world_of (forwarding_of c.args.datapath.now) in
    let more = c.reverse.new.self.items in
    on_appended c.append.result c.append.new.self.items c.args.cases.now.items more _ c.append.ensures.items
    (λ is within taken old most next left so_far.
    let own = rw c.in-Cases.is at next in
    rw is (put_cases c.args.merging w within c.args.steps c.args.cases.now.items old c.args.found.now so_far more (reversed_cases w old c.in-Cases.more.items more c.reverse.ensures.items own.0)))

pub returns-in-Ended-clause-taken : goal.returns-in-Ended-clause-taken
returns-in-Ended-clause-taken g c =
    let w = world_of (forwarding_of c.args.datapath.now) in
    always_ok c.put_path.result _ (λ within taken old next left. (let own = rw c.in-Ended.is at next in step_ended w within taken c.args.cases.now.items old left own.1))

pub returns-in-Ended-clause-so_far : goal.returns-in-Ended-clause-so_far
returns-in-Ended-clause-so_far g c =
    let w = world_of (forwarding_of c.args.datapath.now) in
    if_ok c.put_path.result _ _
    (λ puts within taken old most next left so_far.
    (let own = rw c.in-Ended.is at next in put_ended c.args.merging w within c.args.steps c.args.cases.now.items old c.args.found.now so_far taken c.in-Ended.path _ most left own.0 own.1 own.2 own.3 own.4 puts))
    c.put_path.ensures

pub returns-in_ok-push-in-Undecided-clause-taken : goal.returns-in_ok-push-in-Undecided-clause-taken
returns-in_ok-push-in-Undecided-clause-taken g c = λ within taken old next left.
    let w = world_of (forwarding_of c.args.datapath.now) in
    let own = rw c.in-Undecided.is at next in
    step_unknown w within taken c.args.cases.now.items old left own.2

pub returns-in_ok-push-in-Undecided-clause-so_far : goal.returns-in_ok-push-in-Undecided-clause-so_far
returns-in_ok-push-in-Undecided-clause-so_far g c = λ within taken old most next left so_far.
    let w = world_of (forwarding_of c.args.datapath.now) in
    let own = rw c.in-Undecided.is at next in
    let u = c.in-Undecided.undecided in
    let reason : IsReason w c.args.steps taken old u.why = subst (IsReason w c.args.steps taken old) (sym own.1) own.2 in
    put_undecided c.args.merging w within c.args.steps c.args.cases.now.items old c.args.found.now so_far u _ own.0
    (last_is_undecided c.args.merging w within c.args.steps c.args.cases.now.items old c.args.found.now so_far taken u most left own.0 reason) refl c.in_ok-push-in-Undecided.ensures.items

pub put_path-requires : goal.put_path-requires
put_path-requires g c = c.requires c.in-Ended.path c.in-Ended.is
