use Rattle.std.{specs.Prelude.map, specs.List.flat_map, proofs.Common.◌≡◌, proofs.Common.◌++◌, proofs.Common.take}
use Rattle.of_import.specs.{Notes.comment, Notes.fault_words, ParsedLinesViews.view_faults}
use Rattle.of_import.proofs.notes.push_faults.Given as goal

abbrev pub invariant-loop-it : goal.invariant-loop-it
invariant-loop-it l = l.out.items ≡ l.initial.out.items ++ flat_map (λ f. comment (fault_words f)) (map view_faults (take l.it-index l.faults))
