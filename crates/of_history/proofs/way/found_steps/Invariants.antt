use Rattle.std.proofs.Common.{◌≡◌, ◌++◌, drop, map}
use Rattle.of_history.specs.Ways.{found_step}
use Rattle.of_history.proofs.way.found_steps.Given as goal

abbrev pub invariant-loop-step : goal.invariant-loop-step
invariant-loop-step g l = l.found.items ++ map (found_step l.switch.core.forwarding) (drop l.step-index l.steps) ≡ map (found_step l.switch.core.forwarding) l.steps
