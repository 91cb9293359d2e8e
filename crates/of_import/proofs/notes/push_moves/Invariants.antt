use Rattle.std.{specs.List.flat_map, proofs.Common.◌≡◌, proofs.Common.◌++◌, proofs.Common.take, proofs.Common.ℕ}
use Rattle.of_import.specs.Notes.{comment, renumbered_table_words}
use Rattle.of_import.proofs.notes.push_moves.Given as goal

abbrev pub invariant-loop-it : goal.invariant-loop-it
invariant-loop-it l = l.out.items ≡ l.initial.out.items ++ flat_map (λ (m : ℕ × ℕ). comment (renumbered_table_words m)) (take l.it-index l.moves)
