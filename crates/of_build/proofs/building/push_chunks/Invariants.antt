use Rattle.std.{specs.List.flat_map, proofs.Common.◌≡◌, proofs.Common.◌++◌, proofs.Common.drop}
use Rattle.of_build.specs.Building.{chunk_line}
use Rattle.of_build.proofs.building.push_chunks.Given as goal

abbrev pub invariant-loop-message : goal.invariant-loop-message
invariant-loop-message l = l.out.items ++ flat_map chunk_line (drop l.message-index l.messages) ≡ l.fn.out.items ++ flat_map chunk_line l.messages
