use Rattle.of_check.proofs.ReachLemmas.{reached_both}
use Rattle.of_check.proofs.remark_laws.reached_by_ways.Goals as goal

pub returns : goal.returns
returns c = reached_both
