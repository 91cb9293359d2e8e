use Rattle.of_action_set.{specs.Sets.rank, proofs.Ranked.find_put, proofs.Ranked.rising_put, proofs.Ranked.same_lists}
use Rattle.of_action_set.proofs.laws.set_is_map.Goals as goal

pub returns-clause-written : goal.returns-clause-written
returns-clause-written c = λ set a kind. find_put rank a kind set

pub returns-clause-rising : goal.returns-clause-rising
returns-clause-rising c = λ set a r. rising_put rank a set r

pub returns-clause-same : goal.returns-clause-same
returns-clause-same c = λ s t r q same. same_lists rank s t r q same
