-- Regions: field maps that look alike under a mask. A field map has for each field a value or none (OpenFlow 1.3.5, 5.3).
use Rattle.std.specs.Prelude.{◌≡◌, ℕ, Bool, nat_eq, List, Option}
use Rattle.std.specs.{List.list_all, Option.option_eq}
use Rattle.of_layers.specs.{declared.field.Field.Field, Fields.all_fields}
use Rattle.of_headers.specs.{declared.key.FieldKey.FieldKey, FieldMap.value, FieldMap.seen}
use Rattle.of_oxm.specs.{declared.match_field.MatchField.MatchField, declared.masks.FieldMask.FieldMask, Masks.looked_at, Masks.value_of, Masks.mask_at}
use Rattle.of_cache.specs.declared.region.Region.{Region}

-- a row of the cache: a region, and the number and the priority of the entry that wins there, or none
abbrev pub AnsweredRegion : Type 0
AnsweredRegion = Region × Option (ℕ × ℕ)

abbrev pub region_of : FieldMask → FieldKey → Region
region_of mask key = record { key = key; mask = mask }

-- the wider mask looks at every bit at which the other one looks
abbrev pub IsWithin : FieldMask → FieldMask → Type 0
IsWithin mask wider = (f : Field) → seen (mask_at wider f) (mask_at mask f) ≡ mask_at mask f

-- the field map lies in the region: what is seen of it under the region's mask is the region's key
abbrev pub Holds : Region → (Field → Option ℕ) → Type 0
Holds region map = (f : Field) → seen (mask_at region.mask f) (map f) ≡ value region.key f

-- the region's key lies under its mask, so that the region holds it
abbrev pub IsRegion : Region → Type 0
IsRegion region = Holds region (value region.key)

-- in this field, what the region's mask sees of the match's value is what the match's mask sees of the region's value
abbrev pub agrees_in : (mask key : Field → Option ℕ) → Region → Field → Bool
agrees_in mask key region f = option_eq nat_eq (seen (mask_at region.mask f) (key f)) (seen (mask f) (value region.key f))

-- a match of this mask and these values meets the region
unfoldable pub meets_seen : (mask key : Field → Option ℕ) → Region → Bool
meets_seen mask key region = list_all (agrees_in mask key region) all_fields

-- the match meets the region: it matches a field map of the region (`meeting_is_common_map`)
abbrev pub meets : List MatchField → Region → Bool
meets m region = meets_seen (looked_at m) (value_of m) region
