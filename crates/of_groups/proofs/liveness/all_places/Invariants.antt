use Rattle.std.{specs.List.range_with_len, proofs.Common.◌≡◌}
use Rattle.of_groups.proofs.liveness.all_places.Given as goal

abbrev pub invariant-loop-place : goal.invariant-loop-place
invariant-loop-place l = l.places ≡ range_with_len 0 l.place
