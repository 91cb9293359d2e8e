use Rattle.of_symbolic.proofs.NearLemmas.{near_more}
use Rattle.of_symbolic.proofs.branching.near_entries.Goals as goal

pub loop-entry-preserved : goal.loop-entry-preserved
loop-entry-preserved c = rw c.in_ok-push.ensures.items (near_more c.args.part.now c.loop-entry.yielded c.loop-entry.near.items c.in-Some.entry c.near_entry.result c.loop-entry.invariant c.near_entry.ensures)
