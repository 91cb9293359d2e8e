use Rattle.std.proofs.Common.{◌≡◌, ◌≤◌, ◌-◌, [], vec_len}
use Rattle.std.specs.Prelude.{replicate}
use Rattle.of_text.specs.Configs.{view_tables}
use Rattle.of_text.proofs.config.empty_tables.Given as goal

abbrev pub invariant-loop-alloc : goal.invariant-loop-alloc
invariant-loop-alloc l = record {
  most : vec_len l.tables ≤ 16;
  empty : view_tables l.tables.items ≡ replicate (vec_len l.tables) [];
}

abbrev pub decreases-loop-alloc : goal.decreases-loop-alloc
decreases-loop-alloc l = 16 - vec_len l.tables
