use Rattle.of_groups.proofs.Soundness.{sound_none}
use Rattle.of_groups.proofs.groups.Groups.new.Goals as goal

pub invariant_of-result : goal.invariant_of-result
invariant_of-result c = rw c.new.ensures.items sound_none
