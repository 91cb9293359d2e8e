use Rattle.std.{specs.List.flat_map, proofs.Common.◌≡◌, proofs.Common.◌++◌, proofs.Common.drop}
use Rattle.of_diff_report.specs.Changed.{changed_at}
use Rattle.of_diff_report.proofs.hits.changed_among.Given as goal

abbrev pub invariant-loop-marked : goal.invariant-loop-marked
invariant-loop-marked l = l.changed.items ++ flat_map changed_at (drop l.marked-index l.all) ≡ flat_map changed_at l.all
