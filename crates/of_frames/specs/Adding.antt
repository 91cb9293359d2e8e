-- For contracts inside this crate: bytes that grow by bits.
use Rattle.std.specs.Prelude.{◌≡◌, List, ℕ, ◌++◌}
use Rattle.of_layers.specs.Bits.{bits_of}

-- the bits of the new bytes are those of the old ones and these
pub record Adds (old new bits : List ℕ) : Type 0 where
  pub is : bits_of new ≡ bits_of old ++ bits
