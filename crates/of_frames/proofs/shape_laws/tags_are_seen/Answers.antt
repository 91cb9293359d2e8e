use Rattle.of_frames.proofs.Shapes.{tags_seen}
use Rattle.of_frames.proofs.shape_laws.tags_are_seen.Goals as goal

pub returns : goal.returns
returns c = tags_seen
