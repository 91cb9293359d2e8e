use Rattle.std.{specs.Prelude.filter, proofs.Common.◌≡◌, proofs.Common.not, proofs.Common.take}
use Rattle.of_cache.proofs.Popping.{goes_by}
use Rattle.of_cache.proofs.beaten.drop_beaten.Given as goal

-- the rows of the masks before that go are dropped
abbrev pub invariant-loop-each : goal.invariant-loop-each
invariant-loop-each l = record {
  dropped : l.rows.entries ≡ filter (λ row. not (goes_by l.mask l.key l.priority (take l.each-index l.masks) row)) l.fn.rows.entries;
  capacity : l.rows.cap ≡ l.fn.rows.cap;
}
