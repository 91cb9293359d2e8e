use Rattle.of_layers.proofs.FrameLemmas.{frame_encoded, are_layers, only_layers}
use Rattle.of_layers.proofs.laws.encoded_by_one.Goals as goal

pub returns : goal.returns
returns c = record { encodes = frame_encoded; layered = are_layers; only = only_layers }
