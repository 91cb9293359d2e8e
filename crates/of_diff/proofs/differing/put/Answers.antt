use Rattle.std.proofs.Common.{refl}
use Rattle.of_symbolic_run.proofs.GroupedLemmas.{if_ok}
use Rattle.of_diff.proofs.FindingLemmas.{always_ok, last_is_undecided, on_appended, put_alike, put_found, put_pairs, put_undecided, step_alike, step_differs, step_taken, step_undecided}
use Rattle.of_diff.proofs.differing.put.Goals as goal

pub returns-in-Pairs-clause-taken : goal.returns-in-Pairs-clause-taken
returns-in-Pairs-clause-taken c =
    on_appended c.append.result c.append.new.self.items c.args.pairs.now.items c.in-Pairs.more.items _ c.append.ensures.items
    (λ is k w v steps taken pair next holds left. (let own = rw c.in-Pairs.is at next in rw is (step_taken k w v steps taken c.args.pairs.now.items pair left c.in-Pairs.more.items own.0 own.1)))

pub returns-in-Pairs-clause-so_far : goal.returns-in-Pairs-clause-so_far
returns-in-Pairs-clause-so_far c =
    on_appended c.append.result c.append.new.self.items c.args.pairs.now.items c.in-Pairs.more.items _ c.append.ensures.items
    (λ is k w v steps taken pair most next left so_far. (let own = rw c.in-Pairs.is at next in rw is (put_pairs k w v steps c.args.pairs.now.items c.in-Pairs.more.items pair c.args.so_far.now own.0 so_far)))

pub returns-in-Alike-clause-taken : goal.returns-in-Alike-clause-taken
returns-in-Alike-clause-taken c = λ k w v steps taken pair next holds left. step_alike k w v steps taken c.args.pairs.now.items pair left ((rw c.in-Alike.is at next) holds)

pub returns-in-Alike-clause-so_far : goal.returns-in-Alike-clause-so_far
returns-in-Alike-clause-so_far c = λ k w v steps taken pair most next left so_far. put_alike k w v steps c.args.pairs.now.items pair c.args.so_far.now (rw c.in-Alike.is at next) so_far

pub returns-in-Differs-clause-taken : goal.returns-in-Differs-clause-taken
returns-in-Differs-clause-taken c =
    always_ok c.put_difference.result _
    (λ k w v steps taken pair next holds left. (let is = rw c.in-Differs.is at next in step_differs k w v steps taken c.args.pairs.now.items pair left c.in-Differs.difference is.0 is.1))

pub returns-in-Differs-clause-so_far : goal.returns-in-Differs-clause-so_far
returns-in-Differs-clause-so_far c =
    if_ok c.put_difference.result _ _
    (λ puts k w v steps taken pair most next left so_far.
    (let is = rw c.in-Differs.is at next in put_found k w v steps c.args.pairs.now.items pair c.args.so_far.now _ c.in-Differs.difference puts refl is.0 is.1 so_far))
    c.put_difference.ensures

pub returns-in_ok-push-in-Undecided-clause-taken : goal.returns-in_ok-push-in-Undecided-clause-taken
returns-in_ok-push-in-Undecided-clause-taken c = λ k w v steps taken pair next holds left.
    let own = rw c.in-Undecided.is at next in
    step_undecided k w v steps taken c.args.pairs.now.items pair left c.in-Undecided.undecided own.0 own.1

pub returns-in_ok-push-in-Undecided-clause-so_far : goal.returns-in_ok-push-in-Undecided-clause-so_far
returns-in_ok-push-in-Undecided-clause-so_far c = λ k w v steps taken pair most next left so_far.
    let own = rw c.in-Undecided.is at next in
    let u = c.in-Undecided.undecided in
    put_undecided k w v steps c.args.pairs.now.items pair c.args.so_far.now _ u refl c.in_ok-push-in-Undecided.ensures.items own.0
    (last_is_undecided k w v steps taken c.args.pairs.now.items pair left u most own.0 (own.1 taken)) so_far
