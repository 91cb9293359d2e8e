use Rattle.of_oxm.proofs.Seen.{matched_exactly}
use Rattle.of_oxm.proofs.masks.matched_is_seen.Goals as goal

pub returns : goal.returns
returns c = matched_exactly
