use Rattle.of_cache.proofs.Meeting.{common, met}
use Rattle.of_cache.proofs.laws.meeting_is_common_map.Goals as goal

pub returns-clause-common : goal.returns-clause-common
returns-clause-common c = common

pub returns-clause-meets : goal.returns-clause-meets
returns-clause-meets c = met
