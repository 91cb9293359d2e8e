use Rattle.std.{specs.List.flat_map, proofs.Common.◌≡◌, proofs.Common.◌++◌, proofs.Common.take}
use Rattle.of_serve.specs.Turns.{answer_in}
use Rattle.of_live.proofs.work.push_answers.Given as goal

abbrev pub invariant-loop-effect : goal.invariant-loop-effect
invariant-loop-effect l = l.out ≡ l.initial.out ++ flat_map answer_in (take l.effect-index l.effects)
