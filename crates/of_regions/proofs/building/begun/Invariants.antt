use Rattle.std.proofs.Common.{◌<◌, ◌≤◌}
use Rattle.of_layers.specs.declared.field.Field.{Field}
use Rattle.of_regions.{specs.Building.IsBegunField, specs.Building.IsUnknown, proofs.PlaceLemmas.place}
use Rattle.of_regions.proofs.building.begun.Given as goal

abbrev pub invariant-loop-field : goal.invariant-loop-field
invariant-loop-field l = record {
  begun : (f : Field) → place f < l.field-index → IsBegunField l.shape l.tagging l.m l.fields f;
  unknown : (f : Field) → l.field-index ≤ place f → IsUnknown l.fields f;
}
