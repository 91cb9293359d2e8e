use Rattle.std.proofs.{Common.sym, Common.◌∙◌, Common.arith, lemmas.Bool.eqb-true, lemmas.Bool.eqb-false}
use Rattle.of_wire.proofs.Walking.{stops, is_done}
use Rattle.of_actions.specs.Actions.{actions_of}
use Rattle.of_actions.proofs.action_reading.read_all.Goals as goal

pub returns-in-Err-clause-refused : goal.returns-in-Err-clause-refused
returns-in-Err-clause-refused c =
    let ne = eqb-false _ _ (sym c.is_empty.ensures ∙ c.loop-rest-test.true) in
    stops (actions_of c.args.packet_out) c.args.bytes.now c.loop-rest.rest.now c.loop-rest.actions.items c.deref.result.now c.in-Err.code c.loop-rest.invariant.going (omega (arith, ne)) c.deref.ensures.value c.in-Err.ensures.first

pub returns-clause-found : goal.returns-clause-found
returns-clause-found c = is_done (actions_of c.args.packet_out) c.args.bytes.now c.loop-rest.rest.now c.loop-rest.actions.items c.loop-rest.invariant.going (eqb-true _ _ (sym c.is_empty.ensures ∙ c.loop-rest-test.false))
