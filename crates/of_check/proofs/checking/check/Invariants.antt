use Rattle.of_check.specs.Findings.{AreFindings, entries_below}
use Rattle.of_check.proofs.checking.check.Given as goal

abbrev pub invariant-loop-table : goal.invariant-loop-table
invariant-loop-table g l = AreFindings (entries_below l.table l.switch.core.forwarding.tables) l.switch.core.forwarding.tables l.steps l.findings.items
