use Rattle.of_require.proofs.DecidingLemmas.{joined_none}
use Rattle.of_require.proofs.deciding.joined.Goals as goal

pub returns-in-NoneMatches : goal.returns-in-NoneMatches
returns-in-NoneMatches c ports others w r steps first second = joined_none w r ports others steps c.args.next (rw c.in-NoneMatches.is at first) second
