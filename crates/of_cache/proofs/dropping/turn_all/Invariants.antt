-- so many of the last rows have turned
use Rattle.std.proofs.Common.{◌≡◌, not}
use Rattle.of_cache.{specs.Causes.goes, specs.Regions.AnsweredRegion, proofs.Turning.AreTurned}
use Rattle.of_cache.proofs.dropping.turn_all.Given as goal

abbrev pub invariant-loop-turned : goal.invariant-loop-turned
invariant-loop-turned l = record {
  turned : AreTurned (λ (row : AnsweredRegion). not (goes l.cause row)) l.fn.rows.entries l.rows.entries l._turned;
  capacity : l.rows.cap ≡ l.fn.rows.cap;
}
