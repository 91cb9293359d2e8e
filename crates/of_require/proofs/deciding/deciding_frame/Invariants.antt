use Rattle.std.{specs.List.Contains, proofs.Common.◌≡◌, proofs.Common.◌++◌, proofs.Common.false}
use Rattle.of_paths.specs.declared.path.PathClass.{PathClass}
use Rattle.of_require.specs.Deciding.{class_decides}
use Rattle.of_require.proofs.deciding.deciding_frame.Given as goal

abbrev pub invariant-loop-class : goal.invariant-loop-class
invariant-loop-class l = record {
  parts : l.yielded ++ l.class-iterator.rest.items ≡ l.fn.classes.items;
  none : (class : PathClass) → Contains l.yielded class → class_decides l.requirement class ≡ false;
}
