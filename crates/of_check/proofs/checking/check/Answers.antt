use Rattle.of_check.proofs.FindingLemmas.{no_findings}
use Rattle.of_check.proofs.checking.check.Goals as goal

pub loop-table-init : goal.loop-table-init
loop-table-init g c = rw c.new-findings.ensures.items (no_findings c.args.switch.now.core.forwarding.tables c.args.steps)
