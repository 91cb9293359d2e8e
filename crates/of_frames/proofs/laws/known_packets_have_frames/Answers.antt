use Rattle.of_frames.proofs.KnownLemmas.{among}
use Rattle.of_frames.proofs.laws.known_packets_have_frames.Goals as goal

pub returns : goal.returns
returns c = among
