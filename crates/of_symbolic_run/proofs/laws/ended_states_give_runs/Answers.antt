use Rattle.of_symbolic_run.proofs.RunLemmas.{ended, ended_lines}
use Rattle.of_symbolic_run.proofs.laws.ended_states_give_runs.Goals as goal

pub returns-clause-items : goal.returns-clause-items
returns-clause-items c = ended

pub returns-clause-lines : goal.returns-clause-lines
returns-clause-lines c = ended_lines
