use Rattle.of_c.proofs.GivingLemmas.{compared}
use Rattle.of_c.proofs.diff.reported.Goals as goal

pub returns-in-Ok : goal.returns-in-Ok
returns-in-Ok c =
    compared c.args.first.now c.args.second.now _ c.compared_of.result c.args.steps c.args.words c.in-Ok.found.first.switch c.side_of.result.switch.now c.in-Ok.found.second.switch c.side_of-in-Ok.result.switch.now
    c.in-Ok.found.first.tables c.in-Ok.found.second.tables c.in-Ok.found.missing.items c.deref.result.now c.side_of.result.flows c.side_of-in-Ok.result.flows c.form_of.result c.write_differences-result.result c.status_of_difference.result c.args.out.now.bytes.items _
    c.in-Ok.ensures.switches c.write_differences-result.ensures.output c.compared_of.ensures c.side_of.ensures.switch c.side_of-in-Ok.ensures.switch c.deref.ensures.value c.form_of.ensures c.requires.fresh
    (record { config = c.side_of.ensures.config; origins = c.side_of.ensures.origins }) (record { config = c.side_of-in-Ok.ensures.config; origins = c.side_of-in-Ok.ensures.origins }) c.status_of_difference.ensures
