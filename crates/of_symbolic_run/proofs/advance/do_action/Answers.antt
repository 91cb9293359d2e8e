use Rattle.std.proofs.Common.{sym}
use Rattle.of_symbolic_run.proofs.advance.do_action.Goals as goal

pub returns-in_ok-rewrite_frame_by-in_default : goal.returns-in_ok-rewrite_frame_by-in_default
returns-in_ok-rewrite_frame_by-in_default c = record { answer = sym c.in_ok-rewrite_frame_by-in_default.ensures.answer; ends = c.in_ok-rewrite_frame_by-in_default.ensures.takes c.args.emitted.now.items }
