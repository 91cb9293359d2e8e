use Rattle.of_import.proofs.ImportLemmas.{refused_first}
use Rattle.of_import.proofs.import.configured.Goals as goal

pub returns-in-Err-Refused-clause-failed : goal.returns-in-Err-Refused-clause-failed
returns-in-Err-Refused-clause-failed c = (
  c.in-Err-Refused.place,
  refused_first _ c.in-Err-Refused.field-0 c.in-Err-Refused.place c.in-Err-Refused.code c.in-Err-Refused.field-0-is c.in-Err-Refused.ensures.failed,
  c.number_at.ensures,
)
