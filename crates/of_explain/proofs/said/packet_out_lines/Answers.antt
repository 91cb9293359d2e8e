use Rattle.of_explain.proofs.SaidLemmas.{actions_said_fit}
use Rattle.of_explain.proofs.said.packet_out_lines.Goals as goal

pub returns-clause-fits : goal.returns-clause-fits
returns-clause-fits c = rw (c.in_ok-push_actions.ensures, c.new-rows.ensures.items, c.as_slice.ensures.actions) (actions_said_fit c.args.packet_out.now.actions c.as_slice.ensures.served)
