use Rattle.of_groups.proofs.ChainLaws.{chain_counts, counted_is_chain, long_chain, chain_long}
use Rattle.of_groups.proofs.laws.chain_is_longest.Goals as goal

pub returns-clause-longest : goal.returns-clause-longest
returns-clause-longest c = chain_counts

pub returns-clause-there : goal.returns-clause-there
returns-clause-there c = counted_is_chain

pub returns-clause-long : goal.returns-clause-long
returns-clause-long c = λ groups. (long_chain groups, chain_long groups)
