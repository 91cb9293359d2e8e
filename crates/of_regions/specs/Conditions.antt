-- CONDITIONS ON A FIELD: that of a match, that the field is there, or that it has some bits, also if no match of a flow may mask it, as IN_PORT.
use Rattle.std.specs.{Prelude.◌≡◌, Prelude.List, Prelude.bit_and, List.AllByRecursion}
use Rattle.of_layers.specs.Fields.{ones_of}
use Rattle.of_oxm.specs.{declared.match_field.MatchField.MatchField, Relations.bits_looked_at}

-- it looks at bits of the field, and asks for no others; without bits it agrees with each value, if there is one
pub record IsCondition (e : MatchField) : Type 0 where
  pub within : bit_and (bits_looked_at e) (ones_of e.field) ≡ bits_looked_at e
  pub value : bit_and e.value (bits_looked_at e) ≡ e.value

abbrev pub AreConditions : List MatchField → Type 0
AreConditions fields = AllByRecursion IsCondition fields
