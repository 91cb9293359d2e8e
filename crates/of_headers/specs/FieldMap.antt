-- Field maps: the value of each field, or none where it is absent (OpenFlow 1.3.5, 5.3 and 7.2.3.7).
use Rattle.std.specs.Prelude.{ℕ, ◌+◌, ◌==◌, if◌then◌else◌, slice_index, bit_and, bit_or, Option, Some, None}
use Rattle.std.specs.Int.{bit_at}
use Rattle.of_layers.specs.{declared.field.Field.Field, declared.field.Field.TheVariants.InPort, declared.field.Field.TheVariants.Metadata, declared.field.Field.TheVariants.VlanVid}
use Rattle.of_layers.specs.{Fields.number_of, Layers.Layers, Layers.cells, Looking.look}
use Rattle.of_headers.specs.{declared.key.FieldKey.FieldKey, Numbers.numbers_in}

-- ---- the field map of a frame

-- VLAN_VID is always present: 0 without a tag, else the tag's VID with the bit 0x1000 (7.2.3.7)
abbrev pub vid : Option ℕ → ℕ
vid None = 0
vid (Some v) = 4096 + v

-- the fields of a frame that was received at a port, with metadata
abbrev pub field_map : Layers → ℕ → ℕ → Field → Option ℕ
field_map l port metadata InPort = Some port
field_map l port metadata Metadata = Some metadata
field_map l port metadata VlanVid = Some (vid (look VlanVid (cells l)))
field_map l port metadata f = look f (cells l)

-- ---- a key as a field map

-- a number, if the word says that it is present
abbrev pub there : ℕ → ℕ → ℕ → Option ℕ
there present n v = if bit_at present n == 1 then Some v else None

unfoldable pub value : FieldKey → Field → Option ℕ
value k f = there k.numbers.present (number_of f) (slice_index (numbers_in k.numbers) (number_of f))

-- ---- what is seen of a field under a mask, if any: nothing without a mask, else whether it is present, and the bits under the mask

abbrev pub seen : Option ℕ → Option ℕ → Option ℕ
seen None v = None
seen (Some mask) None = None
seen (Some mask) (Some v) = Some (bit_and v mask)

-- ---- two masks in one: the bits of either

abbrev pub either : Option ℕ → Option ℕ → Option ℕ
either None b = b
either (Some a) None = Some a
either (Some a) (Some b) = Some (bit_or a b)
