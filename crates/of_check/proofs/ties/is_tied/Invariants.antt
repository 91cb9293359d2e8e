use Rattle.std.proofs.Common.{◌≡◌, ℕ, ◌<◌, false, Some, get_or}
use Rattle.std.specs.Prelude.{slice_get}
use Rattle.of_table.specs.{Entries.entry_of, Tables.table_at}
use Rattle.of_check.specs.Verdicts.{are_level}
use Rattle.of_check.proofs.ties.is_tied.Given as goal

abbrev pub invariant-loop-other : goal.invariant-loop-other
invariant-loop-other g l = (i : ℕ) → i < l.other-index → are_level (slice_get (table_at l.table l.switch.core.forwarding.tables).flows (get_or l.by i 0)) (Some (entry_of l.own)) ≡ false
