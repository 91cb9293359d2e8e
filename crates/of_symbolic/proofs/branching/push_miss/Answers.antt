use Rattle.std.proofs.lemmas.Result.{on_ok_weaker}
use Rattle.of_symbolic.proofs.BranchLemmas.{miss_added}
use Rattle.of_symbolic.proofs.branching.push_miss.Goals as goal

pub returns : goal.returns
returns c = on_ok_weaker c.push_branch.result (miss_added c.args.part.now c.args.entries.now c.args.out.now.items c.push_branch.new.out.items) c.push_branch.ensures
