use Rattle.of_alike.proofs.leaving.tell_alike.Goals as goal

pub returns-in-All : goal.returns-in-All
returns-in-All c = λ yes all. c.emit_alike_at.ensures yes
