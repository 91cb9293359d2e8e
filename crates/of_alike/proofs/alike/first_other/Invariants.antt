use Rattle.std.proofs.Common.{◌≡◌, ℕ, ◌<◌, get_or}
use Rattle.of_alike.specs.Alike.{sent_by}
use Rattle.of_alike.proofs.alike.first_other.Given as goal

abbrev pub invariant-loop-port : goal.invariant-loop-port
invariant-loop-port l = (k : ℕ) → k < l.port-index → sent_by (get_or l.ports k 0) l.a ≡ sent_by (get_or l.ports k 0) l.b
