-- The masks of the rows, each of which a lookup tries.
use Rattle.std.specs.Prelude.{◌≡◌, Bool, true, List, [], ◌∷◌, ◌++◌, if◌then◌else◌}
use Rattle.std.specs.List.{Contains, IsDistinct, list_any}
use Rattle.of_oxm.specs.declared.masks.FieldMask.{FieldMask}
use Rattle.of_cache.specs.{declared.region.Region.Region, Regions.AnsweredRegion}
use Rattle.of_oxm.specs.contracts.masks.FieldMaskPartialEq.TheImpl as the_mask
use Rattle.of_cache.specs.contracts.region.RegionPartialEq.TheImpl as the_region

abbrev pub is_same_region : Region → Region → Bool
is_same_region = the_region.eq-value.it

abbrev pub is_same_mask : FieldMask → FieldMask → Bool
is_same_mask = the_mask.eq-value.it

-- some row has the mask
abbrev pub has_row_with_mask : List AnsweredRegion → FieldMask → Bool
has_row_with_mask rows mask = list_any (λ row. is_same_mask row.0.mask mask) rows

-- each row's mask is in the list, which may have more
abbrev pub AreListed : List FieldMask → List AnsweredRegion → Type 0
AreListed masks rows = (row : AnsweredRegion) → Contains rows row → Contains masks row.0.mask

-- THE LIST HAS THE MASKS OF THE ROWS, each once, and no others: a look-up tries no mask twice, and none that no row has
pub record AreMasks (masks : List FieldMask) (rows : List AnsweredRegion) : Type 0 where
  pub listed : AreListed masks rows
  pub used : (mask : FieldMask) → Contains masks mask → has_row_with_mask rows mask ≡ true
  pub once : IsDistinct is_same_mask masks

-- the list with a mask, at its end if it did not have it
abbrev pub with_mask : FieldMask → List FieldMask → List FieldMask
with_mask mask masks = if list_any (λ other. is_same_mask other mask) masks then masks else masks ++ mask ∷ []
