use Rattle.std.{specs.List.flat_map, proofs.Common.◌≡◌, proofs.Common.◌++◌, proofs.Common.take}
use Rattle.of_serve.specs.Turns.{line_in}
use Rattle.of_serve.proofs.gathering.push_lines.Given as goal

abbrev pub invariant-loop-effect : goal.invariant-loop-effect
invariant-loop-effect l = l.out.items ≡ l.initial.out.items ++ flat_map line_in (take l.effect-index l.effects)
