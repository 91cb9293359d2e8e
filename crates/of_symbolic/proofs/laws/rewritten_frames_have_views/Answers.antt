use Rattle.of_symbolic.proofs.{Vids.frame_small, Rewriting.stays_frame, Rewriting.views_follow_all}
use Rattle.of_symbolic.proofs.laws.rewritten_frames_have_views.Goals as goal

pub returns-clause-view : goal.returns-clause-view
returns-clause-view c = views_follow_all

pub returns-clause-frame : goal.returns-clause-frame
returns-clause-frame c = stays_frame

pub returns-clause-vid : goal.returns-clause-vid
returns-clause-vid c = frame_small
