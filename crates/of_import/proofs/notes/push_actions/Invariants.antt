use Rattle.std.proofs.Common.{◌≡◌, ◌++◌, take, List, ℕ}
use Rattle.std.specs.{Prelude.map, List.flat_map}
use Rattle.of_import.specs.Notes.{comment, left_out_action_words}
use Rattle.of_import.proofs.notes.push_actions.Given as goal

abbrev pub invariant-loop-action : goal.invariant-loop-action
invariant-loop-action l = l.out.items ≡ l.initial.out.items ++ flat_map (λ (word : List ℕ). comment (left_out_action_words l.line word)) (map (λ w. w.items) (take l.action-index l.left))
