-- The bytes of a field, borrowed mutably. No checksum is updated.
use Rattle.std.specs.Prelude.{ℕ, ◌+◌, ◌/◌, ◌%◌, ◌==◌, Bool, ◌&&◌, if◌then◌else◌, List, ◌++◌, length, take, drop, Option, Some, None}
use Rattle.std.specs.Borrow.{Lends, MutBor, Fml, Array, u8}
use Rattle.of_layers.specs.{declared.field.Field.Field, declared.place.Place.Place, Layers.cells, Looking.locate, Reading.layers_of}
use Rattle.of_rewrite.specs.contracts.frame.Frame.{the_row}

-- whether a place begins and ends with a byte, as those of VLAN_VID, VLAN_PCP, IP_DSCP, IP_ECN and IPV6_FLABEL do not
abbrev pub is_whole_bytes : Place → Bool
is_whole_bytes p = (p.first % 8 == 0) && (p.bits % 8 == 0)

-- the first byte of a place, and the one after its last, where it is one of whole bytes; else no bytes
abbrev pub bytes_at : Option Place → ℕ × ℕ
bytes_at None = (0, 0)
bytes_at (Some p) = if is_whole_bytes p then (p.first / 8, (p.first + p.bits) / 8) else (0, 0)

-- those of a field of a frame
unfoldable pub lent : Field → List ℕ → ℕ × ℕ
lent f frame = bytes_at (locate f (cells (layers_of frame)))

-- a frame with w in the place of as many bytes, from byte i on
abbrev pub with_bytes_at : ℕ → List ℕ → List ℕ → List ℕ
with_bytes_at i frame w = take (length frame) (take i frame ++ (w ++ drop (i + length w) frame))

-- after the loan the frame has the loan's last bytes in that place, and all others as before
abbrev pub LendsField : MutBor (List ℕ) → Field → MutBor (List ℕ) → Fml
LendsField frame f loan = Lends the_row (Array u8 0) frame loan (with_bytes_at (lent f frame.now).0 frame.now)
