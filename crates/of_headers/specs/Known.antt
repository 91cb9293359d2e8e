-- What is known of the headers of a frame: for contracts of the crates that rewrite frames.
use Rattle.std.specs.Prelude.{◌≡◌, ℕ, List, ⊤}
use Rattle.of_layers.specs.Reading.{layers_of}
use Rattle.of_headers.specs.{FieldMap.value, FieldMap.field_map, Places.layout_of, declared.known.Known.Known}
use Rattle.of_headers.specs.declared.known.Known.TheVariants.{Nothing, Places, Fields}

-- it is what a new reading would give; fields are those of the frame at port 0, without metadata
abbrev pub IsKnownOf : Known → List ℕ → Type 0
IsKnownOf Nothing frame = ⊤
IsKnownOf (Places y) frame = y ≡ layout_of (layers_of frame)
IsKnownOf (Fields h) frame = (h.layout ≡ layout_of (layers_of frame)) × (value h.key ≡ field_map (layers_of frame) 0 0)

-- where the layers begin is known
abbrev pub HasPlaces : Known → Type 0
HasPlaces Nothing = ⊥
HasPlaces (Places y) = ⊤
HasPlaces (Fields h) = ⊤

-- and the fields are
abbrev pub HasFields : Known → Type 0
HasFields Nothing = ⊥
HasFields (Places y) = ⊥
HasFields (Fields h) = ⊤
