use Rattle.std.proofs.Common.{◌≡◌, take}
use Rattle.of_symbolic_run.proofs.copying.copied_emissions.Given as goal

abbrev pub invariant-loop-emission : goal.invariant-loop-emission
invariant-loop-emission l = l.copies.items ≡ take l.emission-index l.emissions
