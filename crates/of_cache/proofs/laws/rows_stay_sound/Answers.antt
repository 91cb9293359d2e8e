use Rattle.of_cache.proofs.Staying.{stays_added, stays_removed, stays_renewed}
use Rattle.of_cache.proofs.laws.rows_stay_sound.Goals as goal

pub returns-clause-added : goal.returns-clause-added
returns-clause-added c = stays_added

pub returns-clause-removed : goal.returns-clause-removed
returns-clause-removed c = stays_removed

pub returns-clause-renewed : goal.returns-clause-renewed
returns-clause-renewed c = stays_renewed
