use Rattle.std.{specs.List.flat_map, proofs.Common.◌≡◌, proofs.Common.◌++◌, proofs.Common.drop}
use Rattle.of_history.specs.Expiring.{step_expiry}
use Rattle.of_history.proofs.fate.list_expiring.Given as goal

abbrev pub invariant-loop-step : goal.invariant-loop-step
invariant-loop-step g l = l.lines.items ++ flat_map (step_expiry l.switch.core.forwarding l.moment) (drop l.step-index l.steps) ≡ flat_map (step_expiry l.switch.core.forwarding l.moment) l.steps
