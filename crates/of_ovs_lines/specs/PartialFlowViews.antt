-- A flow that is being read, apart from its layout in memory.
use Rattle.std.specs.Prelude.{map}
use Rattle.of_ovs_lines.specs.{declared.word_fault.WordFault.WordFault, declared.partial_flow.PartialFlow.PartialFlow as Declared, PartialFlows.PartialFlow, PartialFlows.Refusal}

abbrev pub view_word_fault : WordFault → Refusal
view_word_fault f = record { word = f.word.items; why = f.why }

abbrev pub view_partial_flow : Declared → PartialFlow
view_partial_flow s = record { mode = s.mode; head = s.head; settings = s.settings.items; in_actions = s.in_actions; apply = s.apply.items; dropped = s.dropped; clears = s.clears; writes = s.writes; write = s.write.items; metadata = s.metadata; goto = s.goto; stage = s.stage; left = map (λ w. w.items) s.left.items; resubmits = s.resubmits; counters = map (λ w. w.items) s.counters.items; faults = map view_word_fault s.faults.items }
