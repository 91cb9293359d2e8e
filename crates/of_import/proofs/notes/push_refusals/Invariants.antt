use Rattle.std.{specs.Prelude.map, specs.List.flat_map, proofs.Common.◌≡◌, proofs.Common.◌++◌, proofs.Common.take}
use Rattle.of_import.specs.{Notes.comment, Notes.refusal_words, KeptViews.view_refusal}
use Rattle.of_import.proofs.notes.push_refusals.Given as goal

abbrev pub invariant-loop-it : goal.invariant-loop-it
invariant-loop-it l = l.out.items ≡ l.initial.out.items ++ flat_map (λ r. comment (refusal_words r)) (map view_refusal (take l.it-index l.refused))
