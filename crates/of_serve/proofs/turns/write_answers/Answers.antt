use Rattle.std.proofs.Common.{◌∙◌, ap, take, drop, arith, length-drop, sym, take-add}
use Rattle.std.proofs.lemmas.List.{take-append-drop}
use Rattle.of_serve.{specs.Told.then_onto, proofs.TurnLemmas.took-took, proofs.TurnLemmas.took-nil}
use Rattle.of_serve.proofs.turns.write_answers.Goals as goal

pub loop-at-preserved : goal.loop-at-preserved
loop-at-preserved g c =
    let bytes = c.args.bytes.now in
    let at = c.loop-at.at in
    let old = g.P.Peers.took c.args.peers.now in
    let w = c.in-Wrote.ensures in
    let i = c.loop-at.invariant in
    record {
      within = omega (arith, rw c.rest_from.ensures at w.fits.1, length-drop at bytes, c.loop-at-test.true);
      took = w.took ∙ rw (c.rest_from.ensures, i.took) (took-took old (take at bytes) (take c.in-Wrote.n (drop at bytes))) ∙ ap (then_onto old) (sym (take-add at c.in-Wrote.n bytes));
      failures = omega (arith, w.failures, i.failures);
      came = w.came ∙ i.came;
      accepts = w.same.0 ∙ i.accepts;
      reads = w.same.1 ∙ i.reads;
      accept_failures = w.same.2 ∙ i.accept_failures;
    }

pub returns-in-Fault-clause-takes : goal.returns-in-Fault-clause-takes
returns-in-Fault-clause-takes g c =
    let bytes = c.args.bytes.now in
    let at = c.loop-at.at in
    (take at bytes, drop at bytes, omega (arith, length-drop at bytes, c.loop-at-test.true), take-append-drop at bytes, c.in-Fault.ensures.took ∙ took-nil (g.P.Peers.took c.loop-at.peers) ∙ c.loop-at.invariant.took)
