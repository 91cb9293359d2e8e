use Rattle.of_frames.proofs.Shapes.{shaped}
use Rattle.of_frames.proofs.shape_laws.frames_have_shapes.Goals as goal

pub returns : goal.returns
returns c = shaped
