use Rattle.std.proofs.Common.{◌≡◌, ◌∙◌, ◌+◌, ap, List, Some, arith, refl, subst, sym}
use Rattle.std.{specs.Prelude.slice_get, proofs.lemmas.Option.slice_get-get_or}
use Rattle.of_check.specs.declared.finding.Finding.{Finding}
use Rattle.of_shadowing.proofs.VerdictLemmas.{AreVerdictsBelow, all_done, no_verdicts, one_more}
use Rattle.of_shadowing.proofs.verdicts.check_flows.Goals as goal

pub loop-place-init : goal.loop-place-init
loop-place-init c = subst (λ (fs : List Finding). AreVerdictsBelow c.args.flows.now c.args.steps fs 0) (sym c.new-findings.ensures.items) (no_verdicts c.args.flows.now c.args.steps)

pub loop-place-preserved : goal.loop-place-preserved
loop-place-preserved c =
    let flows = c.args.flows.now in
    let own = c.index-flows-place.result in
    let there : slice_get flows c.loop-place.place ≡ Some own = slice_get-get_or flows c.loop-place.place own c.loop-place-test.true ∙ ap Some (sym c.index-flows-place.is) in
    let finding : Finding = record { table = own.table; place = c.loop-place.place; verdict = c.in_ok-verdict.verdict } in
    subst (λ (fs : List Finding). AreVerdictsBelow flows c.args.steps fs (c.loop-place.place + 1)) (sym c.in_ok-push.ensures.items)
    (one_more flows c.args.steps c.loop-place.findings.items c.loop-place.place finding own there c.loop-place-test.true c.loop-place.invariant refl refl c.in_ok-verdict.ensures)

pub returns : goal.returns
returns c = all_done c.args.flows.now c.args.steps c.loop-place.findings.items c.loop-place.place (omega (arith, c.loop-place-test.false)) c.loop-place.invariant
