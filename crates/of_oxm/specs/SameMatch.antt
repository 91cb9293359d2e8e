-- Whether two matches are one: as many fields, and the same number, value and mask in each place.
use Rattle.std.specs.Prelude.{◌==◌, ◌&&◌, nat_eq, Bool, List}
use Rattle.std.specs.{Option.option_eq, Cmp.Lexicographic.pointwise}
use Rattle.of_layers.specs.Fields.{number_of}
use Rattle.of_oxm.specs.declared.match_field.MatchField.{MatchField}

abbrev pub is_same_field : MatchField → MatchField → Bool
is_same_field a b = (number_of a.field == number_of b.field) && ((a.value == b.value) && option_eq nat_eq a.mask b.mask)

abbrev pub is_same_match : List MatchField → List MatchField → Bool
is_same_match = pointwise is_same_field
