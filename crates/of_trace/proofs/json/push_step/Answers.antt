use Rattle.of_trace.specs.Json.{step_members}
use Rattle.of_trace.proofs.json.push_step.Goals as goal

pub returns-in-TtlExpired : goal.returns-in-TtlExpired
unfolding step_members
returns-in-TtlExpired g c = rw c.in-TtlExpired.is c.push_named-in-TtlExpired.ensures
