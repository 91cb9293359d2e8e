-- The match of a PACKET_IN, byte by byte.
use Rattle.std.proofs.Common.{◌≡◌, ℕ, true, false, eqb, [], ◌∷◌, ◌++◌, refl, arith}
use Rattle.std.proofs.lemmas.Bool.Decides.{nat_tests, eqb_tells}
use Rattle.byteorder.specs.Endian.{big_bytes}
use Rattle.of_layers.specs.Fields.{row_of}
use Rattle.of_oxm.specs.{MatchFieldWire.encoding, Canonical.canonical}
use Rattle.of_messages.specs.Written.{packet_fields}

pub without_metadata : (port metadata : ℕ) → eqb metadata 0 ≡ true → canonical (packet_fields port metadata) ≡ (0 ∷ 1 ∷ 0 ∷ 12 ∷ 0x80 ∷ 0 ∷ 0 ∷ 4 ∷ []) ++ (big_bytes 4 port ++ (0 ∷ 0 ∷ 0 ∷ 0 ∷ []))
unfolding canonical encoding row_of
without_metadata port metadata none = rw none refl

pub with_metadata : (port metadata : ℕ) → eqb metadata 0 ≡ false → canonical (packet_fields port metadata) ≡ (0 ∷ 1 ∷ 0 ∷ 24 ∷ 0x80 ∷ 0 ∷ 0 ∷ 4 ∷ []) ++ (big_bytes 4 port ++ ((0x80 ∷ 0 ∷ 4 ∷ 8 ∷ []) ++ big_bytes 8 metadata))
unfolding canonical encoding row_of
with_metadata port metadata some = rw some refl

pub not_zero : (n : ℕ) → (n ≡ 0 → ⊥) → eqb n 0 ≡ false
not_zero n h = grind (arith, nat_tests, eqb_tells n 0)
