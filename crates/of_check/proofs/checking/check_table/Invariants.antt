use Rattle.std.proofs.Common.{◌++◌}
use Rattle.of_check.specs.Findings.{AreFindings, entries_below, first_entries}
use Rattle.of_check.proofs.checking.check_table.Given as goal

abbrev pub invariant-loop-place : goal.invariant-loop-place
invariant-loop-place g l =
    let ts = l.switch.core.forwarding.tables in
    AreFindings (entries_below l.table ts) ts l.steps l.fn.findings.items → AreFindings (entries_below l.table ts ++ first_entries l.table l.place) ts l.steps l.findings.items
