use Rattle.std.proofs.Common.{length, ◌+◌, ◌-◌, ◌≡◌, ◌*◌, ◌≤◌, drop}
use Rattle.of_layers.specs.Reading.{tag_count}
use Rattle.of_headers.proofs.layout.tags_in.Given as goal

abbrev pub invariant-loop-at : goal.invariant-loop-at
invariant-loop-at l = record {
  at : l.at ≡ 12 + 4 * l.tags;
  room : l.at + 2 ≤ length l.frame;
  all : l.tags + tag_count (drop l.at l.frame) ≡ tag_count (drop 12 l.frame);
}

abbrev pub decreases-loop-at : goal.decreases-loop-at
decreases-loop-at l = length l.frame + 1 - l.at
