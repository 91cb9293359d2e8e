use Rattle.of_live.proofs.HeaderLemmas.{begins, read}
use Rattle.of_live.proofs.framing.carried_frames_have_headers.Goals as goal

pub returns-clause-begins : goal.returns-clause-begins
returns-clause-begins c = begins

pub returns-clause-read : goal.returns-clause-read
returns-clause-read c = read
