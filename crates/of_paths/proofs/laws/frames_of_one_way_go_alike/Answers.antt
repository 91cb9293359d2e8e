use Rattle.of_paths.proofs.PlaceLemmas.{same_places}
use Rattle.of_paths.proofs.laws.frames_of_one_way_go_alike.Goals as goal

pub returns : goal.returns
returns c = same_places
