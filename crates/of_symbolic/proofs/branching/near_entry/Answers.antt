use Rattle.std.proofs.Common.{None, refl}
use Rattle.of_symbolic.proofs.NearLemmas.{far_away}
use Rattle.of_symbolic.proofs.branching.near_entry.Goals as goal

pub returns-then-is_far : goal.returns-then-is_far
returns-then-is_far c = far_away c.args.part.now c.args.entry (record { priority = c.args.entry.priority; fields = None }) (c.is_far.ensures c.if-is_far.true) refl refl
