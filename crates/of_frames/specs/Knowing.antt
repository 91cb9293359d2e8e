-- WHAT IS KNOWN OF THE FIELDS OF PACKETS: of each field that has a mask, whether it is there, and its bits under the mask.
use Rattle.std.specs.Prelude.{◌≡◌, ◌≤◌, ◌⊎◌, ℕ, Option, None, IfSome}
use Rattle.of_layers.specs.{declared.field.Field.Field, declared.field.Field.TheVariants.VlanVid, declared.field.Field.TheVariants.VlanPcp, Fields.ones_of}
use Rattle.of_headers.specs.FieldMap.{seen}
use Rattle.of_frames.specs.{declared.shape.Shape.Shape, declared.shape.Tagging.Tagging, declared.shape.Tagging.TheVariants.Untagged, Rules.HasShape, Rules.IsTagging}

-- a packet of which this is known
abbrev pub IsAmong : (Field → Option ℕ) → (Field → Option ℕ) → (Field → Option ℕ) → Type 0
IsAmong mask known map = (f : Field) → seen (mask f) (map f) ≡ known f

-- each value is within the bits of its field
abbrev pub AreWithinBits : (Field → Option ℕ) → Type 0
AreWithinBits map = (f : Field) → IfSome (map f) (λ v. v ≤ ones_of f)

-- nothing is known of a tag
pub record NothingOfTags (t : Tagging) (mask : Field → Option ℕ) : Type 0 where
  pub untagged : t ≡ Untagged
  pub vid : mask VlanVid ≡ None
  pub pcp : mask VlanPcp ≡ None

-- What is known has this shape and this tagging: bits that are known are under the masks, and the fields are those that the shape and the tagging say. If nothing is known of a tag, a packet without one is meant.
pub record IsKnown (s : Shape) (t : Tagging) (mask known : Field → Option ℕ) : Type 0 where
  pub under : (f : Field) → seen (mask f) (known f) ≡ known f
  pub within : AreWithinBits known
  pub shape : HasShape s known
  pub tags : IsTagging t known ⊎ NothingOfTags t mask
