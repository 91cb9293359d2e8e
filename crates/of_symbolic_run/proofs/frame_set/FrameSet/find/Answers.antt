use Rattle.std.proofs.Common.{subst}
use Rattle.of_symbolic_run.proofs.FrameLemmas.{IsSetFound, finds_in}
use Rattle.of_symbolic_run.proofs.frame_set.FrameSet.find.Goals as goal

pub returns-in-Taken : goal.returns-in-Taken
returns-in-Taken c = subst (IsSetFound c.args.self.now c.args.steps) c.in-Taken.is (finds_in c.args.self.now c.args.steps c.in_ok-found.found c.in_ok-found.ensures)

pub returns-in-Unreceived : goal.returns-in-Unreceived
returns-in-Unreceived c = subst (IsSetFound c.args.self.now c.args.steps) c.in-Unreceived.is (finds_in c.args.self.now c.args.steps c.in_ok-found.found c.in_ok-found.ensures)
