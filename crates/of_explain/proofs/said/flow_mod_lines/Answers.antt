use Rattle.of_explain.proofs.SaidLemmas.{flow_lines_fit}
use Rattle.of_explain.proofs.said.flow_mod_lines.Goals as goal

pub returns-clause-fits : goal.returns-clause-fits
returns-clause-fits c =
    let flow_mod = c.args.flow_mod.now in
    rw (c.in_ok-push_instructions.ensures, c.in_ok-push_fields.ensures, c.new-rows.ensures.items, c.fields.ensures, c.as_slice.ensures.instructions) (flow_lines_fit flow_mod.fields flow_mod.instructions c.known.ensures c.as_slice.ensures.kept)
