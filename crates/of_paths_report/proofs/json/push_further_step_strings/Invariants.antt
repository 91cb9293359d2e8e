use Rattle.std.{specs.List.flat_map, specs.Prelude.IsTrue, proofs.Common.◌≡◌, proofs.Common.◌++◌, proofs.Common.◌∷◌, proofs.Common.drop}
use Rattle.of_tracing.specs.Encoded.{are_encoded}
use Rattle.of_paths_report.specs.PathsJson.{step_string}
use Rattle.of_paths_report.proofs.json.push_further_step_strings.Given as goal

abbrev pub invariant-loop-step : goal.invariant-loop-step
invariant-loop-step l = record {
  encoded : IsTrue (are_encoded (drop l.step-index l.steps));
  text : l.out.items ++ flat_map (λ s. 44 ∷ step_string s) (drop l.step-index l.steps) ≡ l.fn.out.items ++ flat_map (λ s. 44 ∷ step_string s) l.steps;
}
