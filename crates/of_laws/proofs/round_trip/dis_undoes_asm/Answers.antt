use Rattle.of_laws.proofs.ComingBack.{good_again, text_again}
use Rattle.of_laws.proofs.round_trip.dis_undoes_asm.Goals as goal

pub returns-clause-good : goal.returns-clause-good
returns-clause-good c = good_again

pub returns-clause-canonical : goal.returns-clause-canonical
returns-clause-canonical c = text_again
