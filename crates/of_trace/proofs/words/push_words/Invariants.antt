use Rattle.std.{specs.Prelude.IsTrue, proofs.Common.◌≡◌, proofs.Common.◌++◌, proofs.Common.drop}
use Rattle.of_tracing.specs.Encoded.{are_encoded}
use Rattle.of_trace.specs.Words.{words_text}
use Rattle.of_trace.proofs.words.push_words.Given as goal

abbrev pub invariant-loop-step : goal.invariant-loop-step
invariant-loop-step g l = record {
  encoded : IsTrue (are_encoded (drop l.step-index l.steps));
  text : l.out.items ++ words_text l.switch.core.forwarding l.port (drop l.step-index l.steps) ≡ l.fn.out.items ++ words_text l.switch.core.forwarding l.port l.steps;
}
