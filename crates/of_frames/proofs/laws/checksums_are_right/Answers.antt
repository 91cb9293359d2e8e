use Rattle.of_frames.proofs.RightLemmas.{frames_carried_right, frames_header_right}
use Rattle.of_frames.proofs.laws.checksums_are_right.Goals as goal

pub returns : goal.returns
returns c = record { header = frames_header_right; carried = frames_carried_right }
