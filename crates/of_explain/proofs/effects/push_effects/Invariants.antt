use Rattle.std.proofs.Common.{◌≡◌, ◌++◌, drop}
use Rattle.of_explain.specs.Explained.{effect_notes}
use Rattle.of_explain.proofs.effects.push_effects.Given as goal

abbrev pub invariant-loop-effect : goal.invariant-loop-effect
invariant-loop-effect l = l.out.items ++ effect_notes (drop l.effect-index l.effects) ≡ l.fn.out.items ++ effect_notes l.effects
