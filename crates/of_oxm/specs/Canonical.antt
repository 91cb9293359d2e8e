-- The one encoding of a match that is written: fields in ascending order, and zeros for padding (OpenFlow 1.3.5, 7.2.3).
use Rattle.std.specs.Prelude.{ℕ, ◌+◌, ◌-◌, List, ◌∷◌, ◌++◌, length, replicate}
use Rattle.byteorder.specs.Endian.{big_bytes}
use Rattle.of_oxm.specs.{declared.match_field.MatchField.MatchField, MatchGrammar.encodings, MatchGrammar.padded}

abbrev pub written_len : List MatchField → ℕ
written_len m = 4 + length (encodings m)

unfoldable pub canonical : List MatchField → List ℕ
canonical m = 0 ∷ 1 ∷ (big_bytes 2 (written_len m) ++ (encodings m ++ replicate (padded (written_len m) - written_len m) 0))
