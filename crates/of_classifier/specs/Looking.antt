-- The bits that entries look at, field by field (OpenFlow 1.3.5, 5.3).
use Rattle.std.specs.Prelude.{ℕ, List, [], ◌∷◌, Option, None}
use Rattle.of_layers.specs.declared.field.Field.{Field}
use Rattle.of_headers.specs.FieldMap.{either}
use Rattle.of_oxm.specs.Masks.{looked_at}
use Rattle.of_classifier.specs.declared.Row.{Row}

-- the bits that one entry or more looks at in a field, or none
abbrev pub looked_by : List Row → Field → Option ℕ
looked_by [] f = None
looked_by (r ∷ rows) f = either (looked_at r.fields f) (looked_by rows f)
