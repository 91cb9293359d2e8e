use Rattle.of_shadowing.proofs.VerdictLemmas.{AreVerdictsBelow}
use Rattle.of_shadowing.proofs.verdicts.check_flows.Given as goal

abbrev pub invariant-loop-place : goal.invariant-loop-place
invariant-loop-place l = AreVerdictsBelow l.flows l.steps l.findings.items l.place
