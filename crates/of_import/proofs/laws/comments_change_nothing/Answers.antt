use Rattle.of_import.proofs.{CounterLemmas.encoded_with, NoteLemmas.encoded_behind}
use Rattle.of_import.proofs.laws.comments_change_nothing.Goals as goal

pub returns-clause-before : goal.returns-clause-before
returns-clause-before c = encoded_behind

pub returns-clause-behind : goal.returns-clause-behind
returns-clause-behind c = encoded_with
