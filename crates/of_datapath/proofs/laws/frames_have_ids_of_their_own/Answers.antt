use Rattle.of_datapath.proofs.Circle.{all_is_id, held_under, others_under}
use Rattle.of_datapath.proofs.laws.frames_have_ids_of_their_own.Goals as goal

pub returns-clause-next : goal.returns-clause-next
returns-clause-next c = all_is_id

pub returns-clause-held : goal.returns-clause-held
returns-clause-held c = held_under

pub returns-clause-distinct : goal.returns-clause-distinct
returns-clause-distinct c = others_under
