-- For contracts inside this crate: numbers of a key that are what is seen of another one under a mask.
use Rattle.std.specs.Prelude.{◌≡◌, ◌⊎◌, ℕ, List, [], ◌∷◌, slice_index, bit_and}
use Rattle.std.specs.Int.{bit_at}
use Rattle.of_headers.specs.{declared.numbers.Numbers.Numbers, Numbers.numbers_in}

-- the mask lacks the field of that number, or its value has the bits that the key and the mask both have
abbrev pub IsSeen : Numbers → Numbers → Numbers → ℕ → Type 0
IsSeen seen key mask n = (bit_at mask.present n ≡ 0) ⊎ (slice_index (numbers_in seen) n ≡ bit_and (slice_index (numbers_in key) n) (slice_index (numbers_in mask) n))

unfoldable pub AreSeen : Numbers → Numbers → Numbers → List ℕ → Type 0
AreSeen seen key mask [] = Unit {0}
AreSeen seen key mask (n ∷ ns) = IsSeen seen key mask n × AreSeen seen key mask ns
