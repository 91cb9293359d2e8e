use Rattle.of_datapath.proofs.Circle.{few_places}
use Rattle.of_datapath.proofs.laws.at_most_256_are_held.Goals as goal

pub returns : goal.returns
returns c h b = few_places h b.places
