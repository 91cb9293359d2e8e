use Rattle.std.proofs.Common.{◌≡◌, drop}
use Rattle.of_require.specs.Reading.{unspaced}
use Rattle.of_require.proofs.reading.unspaced.Given as goal

abbrev pub invariant-loop-i : goal.invariant-loop-i
invariant-loop-i l = unspaced l.text ≡ unspaced (drop l.i l.text)
