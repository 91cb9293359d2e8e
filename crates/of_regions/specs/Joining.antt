-- A field that obeys a rule, and of which a match asks some bits.
use Rattle.std.specs.Prelude.{◌≡◌, ℕ, true, Option, Some, None, bit_and}
use Rattle.of_headers.specs.FieldMap.{seen}
use Rattle.of_frames.specs.{declared.shape.Rule.Rule, declared.shape.Rule.TheVariants.Free, declared.shape.Rule.TheVariants.Absent, declared.shape.Rule.TheVariants.Under, Rules.Obeys}
use Rattle.of_regions.specs.{declared.joining.Bits.Bits, Known.is_known_by}

-- a rule says bits under its mask, which the field has
abbrev pub IsRule : ℕ → Rule → Type 0
IsRule ones Free = Unit {0}
IsRule ones Absent = Unit {0}
IsRule ones (Under bits v) = (bit_and bits ones ≡ bits) × (bit_and v bits ≡ v)

-- a match asks for bits under its mask, or for nothing
abbrev pub IsAsked : ℕ → Option ℕ → Option ℕ → Type 0
IsAsked ones None None = Unit {0}
IsAsked ones (Some mask) (Some asked) = (bit_and mask ones ≡ mask) × (bit_and asked mask ≡ asked)
IsAsked ones mask asked = ⊥

-- what is known of a field is both
pub record Joined (ones : ℕ) (rule : Rule) (mask asked : Option ℕ) (bits : Bits) : Type 0 where
  pub is : is_known_by ones rule bits.mask bits.known ≡ true
  pub back : (o : Option ℕ) → seen bits.mask o ≡ bits.known → seen mask o ≡ asked
  pub forth : (o : Option ℕ) → seen mask o ≡ asked → Obeys rule o → seen bits.mask o ≡ bits.known
