use Rattle.std.proofs.Common.{◌≡◌, ◌++◌, length}
use Rattle.of_history.specs.Changes.{HasLinesOf, text_without}
use Rattle.of_history.proofs.differing.without.Given as goal

abbrev pub invariant-loop-rest : goal.invariant-loop-rest
invariant-loop-rest l = record {
  within : HasLinesOf l.other l.part;
  text : l.lines.items ++ text_without l.other l.rest ≡ text_without l.other l.text;
}

abbrev pub decreases-loop-rest : goal.decreases-loop-rest
decreases-loop-rest l = length l.rest
