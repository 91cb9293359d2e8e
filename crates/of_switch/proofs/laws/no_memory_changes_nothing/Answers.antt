use Rattle.of_switch.proofs.CallingLemmas.{others_made, others_run}
use Rattle.of_switch.proofs.laws.no_memory_changes_nothing.Goals as goal

pub returns-clause-others : goal.returns-clause-others
returns-clause-others c = others_made

pub returns-clause-run : goal.returns-clause-run
returns-clause-run c = others_run
