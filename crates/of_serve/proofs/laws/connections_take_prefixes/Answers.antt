use Rattle.of_serve.proofs.ConnectionLemmas.{fronts, failed, taken, cut_prefixes, cut_failed, cut_taken}
use Rattle.of_serve.proofs.laws.connections_take_prefixes.Goals as goal

pub returns-clause-fronts : goal.returns-clause-fronts
returns-clause-fronts c = fronts

pub returns-clause-failed : goal.returns-clause-failed
returns-clause-failed c = failed

pub returns-clause-taken : goal.returns-clause-taken
returns-clause-taken c = taken

pub returns-clause-cut_prefixes : goal.returns-clause-cut_prefixes
returns-clause-cut_prefixes c = cut_prefixes

pub returns-clause-cut_failed : goal.returns-clause-cut_failed
returns-clause-cut_failed c = cut_failed

pub returns-clause-cut_taken : goal.returns-clause-cut_taken
returns-clause-cut_taken c = cut_taken
