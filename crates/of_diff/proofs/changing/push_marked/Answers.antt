use Rattle.of_diff.proofs.changing.push_marked.Goals as goal

pub returns-clause-asked : goal.returns-clause-asked
returns-clause-asked c = λ known l over rewriting mark. c.in_ok-known.ensures.asked known l over rewriting
