use Rattle.of_symbolic.proofs.Lookups.{of_frames}
use Rattle.of_symbolic.proofs.laws.pulled_matches_are_of_frames.Goals as goal

pub returns : goal.returns
returns c = of_frames
