use Rattle.std.proofs.Common.{◌≡◌, ◌++◌, ◌∷◌, take, List, ℕ}
use Rattle.std.specs.{Prelude.map, List.flat_map}
use Rattle.of_import.proofs.notes.push_counters.Given as goal

abbrev pub invariant-loop-word : goal.invariant-loop-word
invariant-loop-word l = l.out.items ≡ l.initial.out.items ++ flat_map (λ (word : List ℕ). 32 ∷ word) (map (λ w. w.items) (take l.word-index l.words))
