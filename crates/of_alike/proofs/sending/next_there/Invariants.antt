use Rattle.std.proofs.Common.{◌≡◌, ◌≤◌, length}
use Rattle.of_alike.specs.Emitting.{emitting_at}
use Rattle.of_alike.proofs.sending.next_there.Given as goal

abbrev pub invariant-loop-rest : goal.invariant-loop-rest
invariant-loop-rest l = record { same : emitting_at l.ingress l.at l.emissions ≡ emitting_at l.ingress l.at l.rest; fewer : length l.rest ≤ length l.emissions }

abbrev pub decreases-loop-rest : goal.decreases-loop-rest
decreases-loop-rest l = length l.rest
