-- What a match matches, covers and overlaps (OpenFlow 1.3.5, 5.3 and 6.4). A field map has for each field a value or none.
use Rattle.std.specs.Prelude.{ℕ, ◌≤◌, Bool, false, not, ◌==◌, ◌&&◌, ◌||◌, List, find, Option, Some, None, bit_and, unwrap_or, IfSome}
use Rattle.std.specs.List.{list_any, list_all}
use Rattle.of_layers.specs.{declared.field.Field.Field, Fields.number_of, Fields.ones_of}
use Rattle.of_oxm.specs.declared.match_field.MatchField.{MatchField}

-- each value of the map is one of the field's bits
abbrev pub IsWithinBits : (Field → Option ℕ) → Type 0
IsWithinBits map = (f : Field) → IfSome (map f) (λ v. v ≤ ones_of f)

-- the bits that a field of a match looks at
abbrev pub bits_looked_at : MatchField → ℕ
bits_looked_at e = unwrap_or e.mask (ones_of e.field)

abbrev pub agrees : MatchField → Option ℕ → Bool
agrees e None = false
agrees e (Some v) = bit_and v (bits_looked_at e) == e.value

-- the first field of a match that does not agree with those of a packet
abbrev pub first_difference : List MatchField → (Field → Option ℕ) → Option MatchField
first_difference fields map = find (λ e. not (agrees e (map e.field))) fields

-- each field of the match is in the map and agrees with its value under its mask
abbrev pub matches_map : List MatchField → (Field → Option ℕ) → Bool
matches_map m map = list_all (λ e. agrees e (map e.field)) m

-- y is of the same field, with at least the mask of x and the same bits under it
abbrev pub is_within : MatchField → MatchField → Bool
is_within x y = (number_of y.field == number_of x.field && bit_and (bits_looked_at x) (bits_looked_at y) == bits_looked_at x) && bit_and y.value (bits_looked_at x) == x.value

-- each field of d has one of m within it
abbrev pub covers_match : List MatchField → List MatchField → Bool
covers_match d m = list_all (λ x. list_any (λ y. is_within x y) m) d

-- of different fields, or of values that agree under both masks
abbrev pub can_both : MatchField → MatchField → Bool
can_both x y = not (number_of y.field == number_of x.field) || bit_and y.value (bits_looked_at x) == bit_and x.value (bits_looked_at y)

abbrev pub overlaps_match : List MatchField → List MatchField → Bool
overlaps_match m n = list_all (λ x. list_all (λ y. can_both x y) n) m
