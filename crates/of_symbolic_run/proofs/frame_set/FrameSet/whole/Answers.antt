use Rattle.std.proofs.Common.{refl}
use Rattle.of_symbolic_run.proofs.FrameLemmas.{in_whole}
use Rattle.of_symbolic_run.proofs.frame_set.FrameSet.whole.Goals as goal

pub returns-clause-all : goal.returns-clause-all
returns-clause-all c = in_whole _ c.in_ok-part.ensures.whole refl refl
