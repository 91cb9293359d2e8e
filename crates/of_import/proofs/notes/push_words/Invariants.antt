use Rattle.std.{specs.Prelude.map, specs.List.flat_map, proofs.Common.◌≡◌, proofs.Common.◌++◌, proofs.Common.take}
use Rattle.of_import.specs.Notes.{word_after_space}
use Rattle.of_ovs_lines.specs.PartialFlowViews.{view_word_fault}
use Rattle.of_import.proofs.notes.push_words.Given as goal

abbrev pub invariant-loop-fault : goal.invariant-loop-fault
invariant-loop-fault l = l.out.items ≡ l.initial.out.items ++ flat_map word_after_space (map view_word_fault (take l.fault-index l.faults))
