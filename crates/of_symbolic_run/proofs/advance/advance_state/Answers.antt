use Rattle.of_symbolic_run.proofs.RunLemmas.{advances_at}
use Rattle.of_symbolic_run.proofs.advance.advance_state.Goals as goal

pub returns-clause-at : goal.returns-clause-at
returns-clause-at c w frame port = advances_at c.in_ok-done.done w frame port c.args.state.now c.step_first.new.state c.in_ok-done.ensures.step c.in_ok-done.ensures.lines
