use Rattle.std.proofs.Common.{◌≡◌, take}
use Rattle.of_layers.specs.declared.field.Field.{Field}
use Rattle.of_headers.specs.FieldMap.{value}
use Rattle.of_oxm.specs.Masks.{value_of}
use Rattle.of_oxm.proofs.masks.values_in.Given as goal

abbrev pub invariant-loop-e : goal.invariant-loop-e
invariant-loop-e l = (f : Field) → value l.values f ≡ value_of (take l.e-index l.fields) f
