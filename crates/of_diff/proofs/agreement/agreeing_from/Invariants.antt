use Rattle.std.proofs.Common.{◌≤◌}
use Rattle.of_datapath.specs.Numbers.{forwarding_of}
use Rattle.of_diff.proofs.AgreementLemmas.{TablesSayTheSame}
use Rattle.of_diff.proofs.agreement.agreeing_from.Given as goal

abbrev pub invariant-loop-from : goal.invariant-loop-from
invariant-loop-from g l = record {
  last : l.from ≤ 16;
  same : TablesSayTheSame l.from (forwarding_of l.first) (forwarding_of l.second);
}

abbrev pub decreases-loop-from : goal.decreases-loop-from
decreases-loop-from g l = l.from
