use Rattle.of_table.specs.{Entries.entry_of, Tables.table_at}
use Rattle.of_check.proofs.RivalLemmas.{AreRivalsBelow}
use Rattle.of_check.proofs.rivals.rivals_of.Given as goal

abbrev pub invariant-loop-at : goal.invariant-loop-at
invariant-loop-at g l = AreRivalsBelow (table_at l.table l.switch.core.forwarding.tables).flows l.place (entry_of l.own) l.rivals.items l.at
