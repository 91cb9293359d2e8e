use Rattle.of_alike.proofs.AgreeingRuns.{served_from}
use Rattle.of_alike.proofs.continuing.leads_from.Goals as goal

pub returns-in-Apply : goal.returns-in-Apply
returns-in-Apply c = λ e. served_from c.args.table c.args.instruction.now c.requires (λ t goto. let is = c.in-Apply.is in absurd cc)

pub returns-in-Apply-2 : goal.returns-in-Apply-2
returns-in-Apply-2 c = λ e. served_from c.args.table c.args.instruction.now c.requires (λ t goto. let is = c.in-Apply.is in absurd cc)
