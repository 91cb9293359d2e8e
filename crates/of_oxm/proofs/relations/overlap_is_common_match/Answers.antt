use Rattle.of_oxm.proofs.{Related.matched_overlap, Joined.overlap_common}
use Rattle.of_oxm.proofs.relations.overlap_is_common_match.Goals as goal

pub returns-clause-common : goal.returns-clause-common
returns-clause-common c = overlap_common

pub returns-clause-overlap : goal.returns-clause-overlap
returns-clause-overlap c = matched_overlap
