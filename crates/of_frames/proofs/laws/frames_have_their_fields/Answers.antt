use Rattle.of_frames.proofs.FrameLemmas.{given_fields, given_frame, given_layers, given_size}
use Rattle.of_frames.proofs.laws.frames_have_their_fields.Goals as goal

pub returns : goal.returns
returns c = record { frame = given_frame; size = given_size; layers = given_layers; fields = given_fields }
