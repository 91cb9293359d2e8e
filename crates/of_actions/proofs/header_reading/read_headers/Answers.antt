use Rattle.std.proofs.{Common.sym, Common.◌∙◌, Common.arith, lemmas.Bool.eqb-true, lemmas.Bool.eqb-false}
use Rattle.of_wire.proofs.Walking.{goes_on, stops, is_done}
use Rattle.of_actions.{specs.Headers.headers_of, proofs.HeaderLists.fine_push}
use Rattle.of_actions.proofs.header_reading.read_headers.Goals as goal

pub returns-in-Err-clause-refused : goal.returns-in-Err-clause-refused
returns-in-Err-clause-refused c =
    let ne = eqb-false _ _ (sym c.is_empty.ensures ∙ c.loop-rest-test.true) in
    stops (headers_of c.args.table) c.args.bytes.now c.loop-rest.rest.now c.loop-rest.headers.items c.deref.result.now c.in-Err.code c.loop-rest.invariant.going (omega (arith, ne)) c.deref.ensures c.in-Err.ensures.first

pub returns-clause-found : goal.returns-clause-found
returns-clause-found c = is_done (headers_of c.args.table) c.args.bytes.now c.loop-rest.rest.now c.loop-rest.headers.items c.loop-rest.invariant.going (eqb-true _ _ (sym c.is_empty.ensures ∙ c.loop-rest-test.false))

pub loop-rest-preserved : goal.loop-rest-preserved
loop-rest-preserved c =
    let ne = eqb-false _ _ (sym c.is_empty.ensures ∙ c.loop-rest-test.true) in
    record {
      going = goes_on (headers_of c.args.table) c.args.bytes.now c.loop-rest.rest.now c.split_at.result.1.now c.loop-rest.headers.items c.deref.result.now c.push.new.self.items c.in-Ok.header c.in-Ok.size c.loop-rest.invariant.going (omega (arith, ne)) c.deref.ensures c.in-Ok.ensures.none c.in-Ok.ensures.header c.split_at.ensures.back c.in-Ok.ensures.size c.in_ok-push-in-Ok.ensures.ok;
      fine = fine_push c.args.table c.loop-rest.headers.items c.deref.result.now c.push.new.self.items c.loop-rest.rest.now c.in-Ok.header c.loop-rest.invariant.fine c.deref.ensures c.in-Ok.ensures.header c.in-Ok.ensures.sound c.in-Ok.ensures.leads_on c.in-Ok.ensures.once c.in_ok-push-in-Ok.ensures.ok;
    }
