use Rattle.std.proofs.Common.{◌≡◌, ◌++◌}
use Rattle.of_table.specs.{Entries.flows_of, Tables.table_at}
use Rattle.of_check.specs.Outlines.{outlines_of}
use Rattle.of_check.proofs.outline.outlines_of.Given as goal

abbrev pub invariant-loop-entry : goal.invariant-loop-entry
invariant-loop-entry g l = l.outlines.items ++ outlines_of (flows_of l.entry-iterator) ≡ outlines_of (table_at l.table l.switch.core.forwarding.tables).flows
