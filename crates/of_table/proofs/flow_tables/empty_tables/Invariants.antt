use Rattle.std.{specs.Prelude.replicate, proofs.Common.◌≡◌, proofs.Common.◌≤◌, proofs.Common.◌-◌, proofs.Common.vec_len}
use Rattle.of_table.specs.Entries.{no_entries}
use Rattle.of_table.proofs.flow_tables.empty_tables.Given as goal

abbrev pub invariant-loop-alloc : goal.invariant-loop-alloc
invariant-loop-alloc g l = record {
  most : vec_len l.tables ≤ 16;
  empty : l.tables.items ≡ replicate (vec_len l.tables) no_entries;
}

abbrev pub decreases-loop-alloc : goal.decreases-loop-alloc
decreases-loop-alloc g l = 16 - vec_len l.tables
