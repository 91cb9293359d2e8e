use Rattle.of_rewrite.proofs.{Calling.still_frame, Viewing.view_follows, Viewing.fixed_stays}
use Rattle.of_rewrite.proofs.laws.views_follow.Goals as goal

pub returns-clause-view : goal.returns-clause-view
returns-clause-view c = view_follows

pub returns-clause-frame : goal.returns-clause-frame
returns-clause-frame c = still_frame

pub returns-clause-fixed : goal.returns-clause-fixed
returns-clause-fixed c = fixed_stays
