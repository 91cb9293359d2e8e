use Rattle.std.{specs.Map.Iter.deref_pair, proofs.Common.◌≡◌, proofs.Common.map}
use Rattle.of_cache.specs.Held.{shown_row}
use Rattle.of_cache.proofs.cached.rows_of.Given as goal

-- the rows so far
abbrev pub invariant-loop-region : goal.invariant-loop-region
invariant-loop-region l = l.list.items ≡ map (λ p. shown_row (deref_pair p)) l.yielded
