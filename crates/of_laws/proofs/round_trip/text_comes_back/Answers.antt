use Rattle.of_laws.proofs.ComingBack.{comes_back}
use Rattle.of_laws.proofs.round_trip.text_comes_back.Goals as goal

pub returns : goal.returns
returns c = comes_back
