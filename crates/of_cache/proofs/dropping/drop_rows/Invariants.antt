use Rattle.std.proofs.Common.{◌≡◌}
use Rattle.of_cache.specs.Causes.{staying}
use Rattle.of_cache.proofs.dropping.drop_rows.Given as goal

-- only rows that go were dropped
abbrev pub invariant-loop-dropped : goal.invariant-loop-dropped
invariant-loop-dropped l = record {
  same : staying l.cause l.rows.entries ≡ staying l.cause l.fn.rows.entries;
  capacity : l.rows.cap ≡ l.fn.rows.cap;
}
