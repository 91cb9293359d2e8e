use Rattle.std.proofs.Common.{◌≡◌, ◌++◌}
use Rattle.of_require.specs.Deciding.{AreDivided}
use Rattle.of_require.proofs.packets.divide.Given as goal

abbrev pub invariant-loop-set : goal.invariant-loop-set
invariant-loop-set l = record {
  parts : l.yielded ++ l.set-iterator.rest.items ≡ l.fn.sets.items;
  divided : AreDivided l.fields.items l.yielded l.divided.items;
}
