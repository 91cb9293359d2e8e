use Rattle.std.{specs.List.flat_map, proofs.Common.◌≡◌, proofs.Common.◌++◌, proofs.Common.length}
use Rattle.of_text.specs.Lines.{lines_of}
use Rattle.of_ovs_text.specs.Lengths.{line_with_used_length}
use Rattle.of_ovs_text.proofs.lengths.with_used_lengths.Given as goal

abbrev pub decreases-loop-rest : goal.decreases-loop-rest
decreases-loop-rest l = length l.rest

abbrev pub invariant-loop-rest : goal.invariant-loop-rest
invariant-loop-rest l = l.out.items ++ flat_map line_with_used_length (lines_of l.rest) ≡ flat_map line_with_used_length (lines_of l.text)
