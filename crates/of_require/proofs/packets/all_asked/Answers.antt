use Rattle.std.proofs.Common.{List, subst}
use Rattle.of_symbolic_run.specs.declared.state.Emission.{Emission}
use Rattle.of_require.{specs.Packets.AreAsked, proofs.ListLemmas.all_taken, proofs.DividingLemmas.asked_more, proofs.DividingLemmas.asked_never, proofs.DividingLemmas.conditions_more}
use Rattle.of_require.proofs.packets.all_asked.Goals.{in-Never, in-When+in_ok-push-in-When}
use Rattle.of_require.proofs.packets.all_asked.Goals as goal

pub loop-e-preserved : goal.loop-e-preserved
loop-e-preserved c = elim c.match-branch-2.branch [
  | in-Never w ↦ record {
    asked = rw w.lists-is (asked_never c.args.inner c.args.fields.now c.args.emitted.now c.loop-e.e-index c.e-item.result c.loop-e.lists.items c.loop-e-test.true c.e-item.is c.loop-e.invariant.asked (rw w.in-Never.is at c.in_ok-asked_by.ensures.is));
    conditions = rw w.lists-is c.loop-e.invariant.conditions;
  }
  | in-When+in_ok-push-in-When w ↦ record {
    asked = rw (w.lists-is, w.in_ok-push-in-When.ensures.items) (asked_more c.args.inner c.args.fields.now c.args.emitted.now c.loop-e.e-index c.e-item.result c.loop-e.lists.items c.loop-e-test.true c.e-item.is c.loop-e.invariant.asked w.in-When.asked (rw w.in-When.is at c.in_ok-asked_by.ensures.is));
    conditions = rw (w.lists-is, w.in_ok-push-in-When.ensures.items) (conditions_more c.loop-e.lists.items w.in-When.asked c.loop-e.invariant.conditions (rw w.in-When.is at c.in_ok-asked_by.ensures.conditions));
  }
]

pub returns-clause-known : goal.returns-clause-known
returns-clause-known c = subst (λ (l : List Emission). AreAsked c.args.inner c.args.fields.now l c.loop-e.lists.items) (all_taken c.args.emitted.now c.loop-e.e-index c.loop-e-test.false) c.loop-e.invariant.asked
