use Rattle.of_trace.proofs.NoteLemmas.{said_noted}
use Rattle.of_trace.proofs.laws.notes_only_add.Goals as goal

pub returns : goal.returns
returns c = said_noted
