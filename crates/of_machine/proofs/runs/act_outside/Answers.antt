use Rattle.std.proofs.{Common.sym, lemmas.Result.err_from_is_err_and}
use Rattle.of_machine.proofs.Promises.{flow_serves, action_is_below}
use Rattle.of_machine.proofs.runs.act_outside.Goals as goal

pub to_tables-requires-clause-table : goal.to_tables-requires-clause-table
to_tables-requires-clause-table g c =
    sym c.if-goes_to_tables.ensures

pub act-requires-clause-served : goal.act-requires-clause-served
act-requires-clause-served g c =
    flow_serves c.args.action c.requires.served (sym c.if-goes_to_tables.ensures)

pub act-requires-clause-below : goal.act-requires-clause-below
act-requires-clause-below g c =
    action_is_below (g.W.World.view c.args.world.now) c.args.action c.requires.sound

pub returns-in_err-to_tables-clause-err : goal.returns-in_err-to_tables-clause-err
returns-in_err-to_tables-clause-err g c =
    let p = err_from_is_err_and c.from_residual.result c.from_residual.ensures.1 in
    rw p.1 c.in_err-to_tables.ensures.err
