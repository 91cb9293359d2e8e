-- WHAT CHANGED IN A FRAME on its way through a switch: each field that has another value, in the order of their table, and the TTL (OpenFlow 1.3.5, 5.12
-- and 7.2.3.7).
use Rattle.std.specs.Prelude.{ℕ, ◌==◌, ◌&&◌, nat_le, nat_lt, Bool, true, false, not, List, [], ◌∷◌, ◌++◌, length, Option, Some, None, if◌then◌else◌}
use Rattle.std.specs.List.{flat_map}
use Rattle.of_layers.specs.{declared.field.Field.Field, Fields.all_fields, Reading.layers_of}
use Rattle.of_headers.specs.FieldMap.{field_map}
use Rattle.of_rewrite.specs.TimeToLive.{ttl_of}
use Rattle.of_json.specs.{declared.altered.Change.Change, declared.altered.Property.Property, declared.altered.Property.TheVariants.InField, declared.altered.Property.TheVariants.TimeToLive}

-- a value, where a frame may have none
abbrev pub is_other : Option ℕ → Option ℕ → Bool
is_other None None = false
is_other None (Some b) = true
is_other (Some a) None = true
is_other (Some a) (Some b) = not (a == b)

-- with the values before and after, if these differ
abbrev pub value_change : Property → Option ℕ → Option ℕ → List Change
value_change property before after = if is_other before after then record { property = property; before = before; after = after } ∷ [] else []

-- of each field, and then of the TTL
abbrev pub changes_between : (Field → Option ℕ) → Option ℕ → (Field → Option ℕ) → Option ℕ → List Change
changes_between map ttl map' ttl' = flat_map (λ f. value_change (InField f) (map f) (map' f)) all_fields ++ value_change TimeToLive ttl ttl'

-- a frame whose headers are read
abbrev pub is_readable : List ℕ → Bool
is_readable frame = nat_le 14 (length frame) && nat_lt (length frame) 65536

-- THE CHANGES from one frame to another
unfoldable pub changes : List ℕ → List ℕ → List Change
changes before after =
    if is_readable before && is_readable after
    then changes_between (field_map (layers_of before) 0 0) (ttl_of (layers_of before)) (field_map (layers_of after) 0 0) (ttl_of (layers_of after))
    else []
