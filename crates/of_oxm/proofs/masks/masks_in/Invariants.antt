use Rattle.std.proofs.Common.{◌≡◌, take}
use Rattle.of_layers.specs.declared.field.Field.{Field}
use Rattle.of_headers.specs.FieldMap.{value}
use Rattle.of_oxm.specs.Masks.{looked_at}
use Rattle.of_oxm.proofs.masks.masks_in.Given as goal

abbrev pub invariant-loop-e : goal.invariant-loop-e
invariant-loop-e l = (f : Field) → value l.masks f ≡ looked_at (take l.e-index l.fields) f
