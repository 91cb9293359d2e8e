use Rattle.std.{specs.Prelude.IsTrue, proofs.Common.◌≡◌, proofs.Common.◌++◌, proofs.Common.drop}
use Rattle.of_tracing.specs.Encoded.{are_encoded}
use Rattle.of_history.specs.Fates.{fate_lines}
use Rattle.of_history.proofs.fate.push_fate_lines.Given as goal

abbrev pub invariant-loop-step : goal.invariant-loop-step
invariant-loop-step g l = record {
  encoded : IsTrue (are_encoded (drop l.step-index l.steps));
  text : l.out.items ++ fate_lines l.switch.core.forwarding (drop l.step-index l.steps) ≡ l.fn.out.items ++ fate_lines l.switch.core.forwarding l.steps;
}
