use Rattle.std.{specs.Prelude.map, specs.List.list_any, specs.Map.Iter.deref_pair, proofs.Common.◌≡◌, proofs.Common.false}
use Rattle.of_cache.specs.Causes.{goes}
use Rattle.of_cache.proofs.dropping.first_that_goes.Given as goal

-- none of the rows before goes
abbrev pub invariant-loop-region : goal.invariant-loop-region
invariant-loop-region l = list_any (goes l.cause) (map deref_pair l.yielded) ≡ false
