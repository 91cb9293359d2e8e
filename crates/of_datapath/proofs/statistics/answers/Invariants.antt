use Rattle.std.{specs.Prelude.map, proofs.Common.◌≡◌}
use Rattle.of_datapath.specs.declared.effect.Effect.TheVariants.{Answer}
use Rattle.of_datapath.proofs.statistics.answers.Given as goal

abbrev pub invariant-loop-message : goal.invariant-loop-message
invariant-loop-message l = l.effects.items ≡ map Answer l.yielded
