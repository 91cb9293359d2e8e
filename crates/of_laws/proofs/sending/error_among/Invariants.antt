use Rattle.std.proofs.Common.{◌≡◌, drop}
use Rattle.of_laws.specs.Sending.{error_in}
use Rattle.of_laws.proofs.sending.error_among.Given as goal

abbrev pub invariant-loop-effect : goal.invariant-loop-effect
invariant-loop-effect l = error_in (drop l.effect-index l.effects) ≡ error_in l.effects
