use Rattle.of_datapath.specs.{Datapath.world_of, Numbers.forwarding_of}
use Rattle.of_symbolic_run.proofs.GroupedLemmas.{AreListsSoFar}
use Rattle.of_symbolic_run.proofs.grouped.bucket_lists_at.Given as goal

abbrev pub invariant-loop-place : goal.invariant-loop-place
invariant-loop-place g l = AreListsSoFar (world_of (forwarding_of l.datapath)) l.group l.places l.place-index l.lists.items
