-- The frames that actions make of a frame, as bytes (OpenFlow 1.3.5, 5.12).
use Rattle.std.specs.Prelude.{ℕ, zero, suc, ◌/◌, ◌≤◌, List, [], ◌∷◌, length, take, drop}
use Rattle.of_layers.specs.{declared.field.Field.Field, Layers.Cell, Layers.cells, Layers.encoded, Layers.ttl, Reading.layers_of, WellFormed.AreBytes}
use Rattle.of_rewrite.specs.{Checksum.number_of_bits, Rewriting.number_set, Rewriting.field_set, TimeToLive.ttl_of, TimeToLive.ttl_decremented_from}
use Rattle.of_headers.specs.Tags.{pushed, popped}

-- bytes that are a frame: at least two addresses and a type (IEEE 802.3, 3.1.1)
abbrev pub IsFrame : List ℕ → Type 0
IsFrame frame = (14 ≤ length frame) × AreBytes frame

-- the bytes of 8 bits that bits are, the highest bit of each first
unfoldable pub octets_of : ℕ → List ℕ → List ℕ
octets_of zero s = []
octets_of (suc n) s = number_of_bits (take 8 s) ∷ octets_of n (drop 8 s)

-- the bytes that cells encode
abbrev pub bytes_in : List Cell → List ℕ
bytes_in cs = octets_of (length (encoded cs) / 8) (encoded cs)

-- ---- a frame

-- with another value of a field
unfoldable pub frame_set : Field → ℕ → List ℕ → List ℕ
frame_set f v frame = bytes_in (field_set f v (layers_of frame))

-- with a VLAN tag of a type pushed
unfoldable pub frame_pushed : ℕ → List ℕ → List ℕ
frame_pushed type frame = bytes_in (cells (pushed type (layers_of frame)))

-- without its outermost tag
unfoldable pub frame_popped : List ℕ → List ℕ
frame_popped frame = bytes_in (cells (popped (layers_of frame)))

-- with another TTL
unfoldable pub frame_ttl : ℕ → List ℕ → List ℕ
frame_ttl v frame = bytes_in (number_set ttl v (layers_of frame))

-- with the TTL decremented by one
unfoldable pub frame_ttl_decremented : List ℕ → List ℕ
frame_ttl_decremented frame = bytes_in (ttl_decremented_from (ttl_of (layers_of frame)) (layers_of frame))
