use Rattle.of_history.proofs.TurnLemmas.{row_last, rows_between, told_between}
use Rattle.of_history.proofs.laws.fates_between.Goals as goal

pub returns-clause-turns : goal.returns-clause-turns
returns-clause-turns c = told_between

pub returns-clause-rows : goal.returns-clause-rows
returns-clause-rows c = rows_between

pub returns-clause-last : goal.returns-clause-last
returns-clause-last c = row_last
