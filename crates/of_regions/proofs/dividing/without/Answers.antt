use Rattle.of_regions.proofs.DividingLemmas.{are_without}
use Rattle.of_regions.proofs.dividing.without.Goals as goal

pub returns : goal.returns
returns c = are_without c.args.bits c.args.mask
