use Rattle.std.{specs.List.flat_map, proofs.Common.◌≡◌, proofs.Common.◌++◌, proofs.Common.drop}
use Rattle.of_json.specs.Hits.{hits_at}
use Rattle.of_json.proofs.hits.hits_among.Given as goal

abbrev pub invariant-loop-step : goal.invariant-loop-step
invariant-loop-step l = l.hits.items ++ flat_map hits_at (drop l.step-index l.steps) ≡ flat_map hits_at l.steps
