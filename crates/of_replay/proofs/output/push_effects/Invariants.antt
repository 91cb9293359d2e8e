use Rattle.std.proofs.Common.{◌≡◌, ◌++◌, take}
use Rattle.of_replay.specs.Output.{text_of}
use Rattle.of_replay.proofs.output.push_effects.Given as goal

abbrev pub invariant-loop-effect : goal.invariant-loop-effect
invariant-loop-effect l = l.out.items ≡ l.initial.out.items ++ text_of (take l.effect-index l.effects)
