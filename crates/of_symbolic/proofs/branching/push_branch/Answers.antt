use Rattle.std.proofs.Common.{refl}
use Rattle.of_symbolic.proofs.BranchLemmas.{branch_pushed}
use Rattle.of_symbolic.proofs.branching.push_branch.Goals as goal

pub returns-in_ok-push : goal.returns-in_ok-push
returns-in_ok-push c =
    let chosen = c.in_ok-chosen.chosen in
    branch_pushed c.args.part.now c.args.entries.now c.args.fields.now c.args.of c.in_ok-matched.field-0 chosen c.in_ok-matched.ensures c.in_ok-chosen.ensures c.args.out.now.items
    (record { part = chosen; entry = c.rank_place.result }) c.push.new.self.items c.in_ok-push.ensures.items refl c.rank_place.ensures
