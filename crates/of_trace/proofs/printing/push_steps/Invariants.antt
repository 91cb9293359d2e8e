use Rattle.std.{specs.Prelude.IsTrue, proofs.Common.◌≡◌, proofs.Common.◌++◌, proofs.Common.drop}
use Rattle.of_tracing.specs.Encoded.{are_encoded}
use Rattle.of_trace.specs.Text.{steps_text}
use Rattle.of_trace.proofs.printing.push_steps.Given as goal

abbrev pub invariant-loop-step : goal.invariant-loop-step
invariant-loop-step l = record {
  encoded : IsTrue (are_encoded (drop l.step-index l.steps));
  text : l.out.items ++ steps_text (drop l.step-index l.steps) ≡ l.fn.out.items ++ steps_text l.steps;
}
