use Rattle.std.{specs.List.flat_map, proofs.Common.◌≡◌, proofs.Common.◌++◌, proofs.Common.drop}
use Rattle.of_paths_report.specs.PathsWords.{hit_words}
use Rattle.of_paths_report.proofs.hits.push_path_hits.Given as goal

abbrev pub invariant-loop-step : goal.invariant-loop-step
invariant-loop-step l = l.out.items ++ flat_map hit_words (drop l.step-index l.path.steps.items) ≡ l.fn.out.items ++ flat_map hit_words l.path.steps.items
