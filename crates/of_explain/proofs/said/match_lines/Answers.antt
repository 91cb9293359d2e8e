use Rattle.of_explain.proofs.SaidLemmas.{match_lines_fit}
use Rattle.of_explain.proofs.said.match_lines.Goals as goal

pub returns-clause-fits : goal.returns-clause-fits
returns-clause-fits c = rw (c.in_ok-push_fields.ensures, c.new-rows.ensures.items, c.fields.ensures) (match_lines_fit c.args.fields.now c.known.ensures)
