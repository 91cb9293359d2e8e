use Rattle.of_text.proofs.{ConfigLemmas.config_fits, WriteLemmas.config_written}
use Rattle.of_text.proofs.disassembling.disassemble.Goals as goal

pub write_groups-requires : goal.write_groups-requires
write_groups-requires c = rw c.deref.ensures.value (config_fits _ c.config.invariant).0

pub write_tables-requires : goal.write_tables-requires
write_tables-requires c = rw c.deref-2.ensures.value (config_fits _ c.config.invariant).1

pub returns : goal.returns
returns c = rw (← c.config.view_is) (config_written _ _ _ (rw (c.in_ok-write_groups.ensures, c.new-out.ensures.items, c.deref.ensures.value, c.deref-2.ensures.value) at c.in_ok-write_tables.ensures))
