use Rattle.of_regions.proofs.LookLemmas.{IsSplitSoFar}
use Rattle.of_regions.proofs.looking.look_at.Given as goal

abbrev pub invariant-loop-index : goal.invariant-loop-index
invariant-loop-index l = IsSplitSoFar l.rivals l.rest.region l.index l.split
