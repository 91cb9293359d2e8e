-- Which fields a key has: bit n of a word says whether the field of number n is present.
use Rattle.std.specs.Prelude.{◌≡◌, ℕ, ◌^◌, List, [], ◌∷◌, slice_index, bit_and, bit_or}
use Rattle.std.specs.Int.{bit_at}
use Rattle.of_layers.specs.{declared.field.Field.Field, Fields.number_of, Fields.all_fields}

-- the word of some fields
abbrev pub word_of : List Field → ℕ
word_of [] = 0
word_of (f ∷ fs) = bit_or (2 ^ number_of f) (word_of fs)

unfoldable pub all_bits : ℕ
all_bits = word_of all_fields

-- no bit is set but those of the fields' numbers
abbrev pub AreFields : ℕ → Type 0
AreFields present = bit_and present all_bits ≡ present

-- an absent field has the value 0
abbrev pub AbsentAreZero : ℕ → List ℕ → Type 0
AbsentAreZero present values = (f : Field) → bit_at present (number_of f) ≡ 0 → slice_index values (number_of f) ≡ 0
