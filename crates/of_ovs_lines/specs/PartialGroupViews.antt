-- A group that is being read, apart from its layout in memory.
use Rattle.std.specs.Prelude.{map}
use Rattle.of_text.specs.Views.{view_bucket}
use Rattle.of_ovs_lines.specs.{declared.partial_group.PartialGroup.PartialGroup as Declared, PartialFlowViews.view_word_fault, PartialGroups.PartialGroup}

abbrev pub view_partial_group : Declared → PartialGroup
view_partial_group s = record { id = s.id; kind = s.kind; begun = s.begun; head = s.head; actions = s.actions.items; dropped = s.dropped; buckets = map view_bucket s.buckets.items; faults = map view_word_fault s.faults.items }
