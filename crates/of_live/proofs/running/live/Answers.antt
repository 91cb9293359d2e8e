use Rattle.of_live.proofs.running.live.Goals as goal

pub returns : goal.returns
returns g c = rw c.ended_by.ensures c.take_turns.ensures
