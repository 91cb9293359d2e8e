use Rattle.std.{specs.Prelude.replicate, proofs.Common.◌≡◌, proofs.Common.◌++◌}
use Rattle.of_trace.proofs.packets.put_copies.Given as goal

abbrev pub invariant-loop-left : goal.invariant-loop-left
invariant-loop-left l = replicate l.left l.sight ++ l.packets.items ≡ replicate l.count l.sight ++ l.fn.packets.items

abbrev pub decreases-loop-left : goal.decreases-loop-left
decreases-loop-left l = l.left
