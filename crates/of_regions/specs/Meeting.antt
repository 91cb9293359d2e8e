-- WHAT A MATCH DOES WITH A REGION: it matches none of its packets, all of them, or some; then a bit of a field is not known that the match looks at.
use Rattle.std.specs.Prelude.{◌≡◌, ℕ, ◌==◌, ◌&&◌, Bool, true, false, not, List, Option, Some, None, bit_and}
use Rattle.std.specs.List.{Contains, list_any}
use Rattle.of_layers.specs.declared.field.Field.{Field}
use Rattle.of_headers.specs.FieldMap.{value}
use Rattle.of_oxm.specs.{declared.match_field.MatchField.MatchField, Masks.mask_at, Relations.bits_looked_at, Relations.matches_map}
use Rattle.of_regions.specs.{declared.meeting.Meeting.Meeting, declared.meeting.Meeting.TheVariants.Apart, declared.meeting.Meeting.TheVariants.Whole, declared.meeting.Meeting.TheVariants.Crosses}
use Rattle.of_regions.specs.{declared.region.Region.Region, Regions.InRegion}

-- a field of a match agrees with whatever has these bits under this mask
abbrev pub is_settled : MatchField → Option ℕ → Option ℕ → Bool
is_settled e (Some mask) (Some known) = bit_and (bits_looked_at e) mask == bits_looked_at e && bit_and known (bits_looked_at e) == e.value
is_settled e mask known = false

-- the bits that are known do not agree with the field of a match
abbrev pub is_apart : MatchField → Option ℕ → Option ℕ → Bool
is_apart e None known = false
is_apart e (Some mask) None = true
is_apart e (Some mask) (Some known) = not (bit_and known (bits_looked_at e) == bit_and e.value mask)

-- neither: some bit that the field of the match looks at is not known
pub record IsCrossed (r : Region) (e : MatchField) : Type 0 where
  pub unsettled : is_settled e (mask_at r.masks e.field) (value r.known e.field) ≡ false
  pub near : is_apart e (mask_at r.masks e.field) (value r.known e.field) ≡ false

-- no field of the match is apart from the region
abbrev pub IsNear : Region → List MatchField → Type 0
IsNear r m = list_any (λ e. is_apart e (mask_at r.masks e.field) (value r.known e.field)) m ≡ false

abbrev pub Meets : Region → List MatchField → Meeting → Type 0
Meets r m Apart = (map : Field → Option ℕ) → InRegion r map → matches_map m map ≡ false
Meets r m Whole = (map : Field → Option ℕ) → InRegion r map → matches_map m map ≡ true
Meets r m (Crosses e) = Contains m e × IsCrossed r e × IsNear r m
