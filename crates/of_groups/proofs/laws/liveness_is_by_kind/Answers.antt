use Rattle.of_groups.proofs.LiveLaws.{live_by_kind}
use Rattle.of_groups.proofs.laws.liveness_is_by_kind.Goals as goal

pub returns : goal.returns
returns c = live_by_kind
