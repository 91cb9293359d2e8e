use Rattle.of_oxm.proofs.Seen.{matched_alike}
use Rattle.of_oxm.proofs.masks.agreeing_match_alike.Goals as goal

pub returns : goal.returns
returns c = matched_alike
