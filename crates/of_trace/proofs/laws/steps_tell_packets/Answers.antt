use Rattle.of_trace.proofs.SightLemmas.{frame_told}
use Rattle.of_trace.proofs.laws.steps_tell_packets.Goals as goal

pub returns : goal.returns
returns c = frame_told
