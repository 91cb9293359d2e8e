-- THE FIELDS OF A FRAME AFTER AN ACTION, by those that it had (OpenFlow 1.3.5, 5.12 and 7.2.3.7).
use Rattle.std.specs.Prelude.{ℕ, ◌+◌, ◌%◌, ◌^◌, ◌==◌, List, [], ◌∷◌, slice_index, Option, Some, None, if◌then◌else◌}
use Rattle.std.specs.Option.{option_map}
use Rattle.of_layers.specs.{declared.field.Field.Field, declared.field.Field.TheVariants.VlanVid, declared.field.Field.TheVariants.VlanPcp, Fields.bit_count, Fields.number_of}

-- VLAN_VID with another VID: without a tag it stays 0, and with one it has the bit OFPVID_PRESENT
abbrev pub vid_after : ℕ → ℕ → ℕ
vid_after v old = if old == 0 then 0 else 4096 + v % 4096

-- the value of a field that is set, to as many bits as the field has; a field that is absent stays absent
abbrev pub value_after : Field → ℕ → Option ℕ → Option ℕ
value_after VlanVid v old = option_map (vid_after v) old
value_after f v old = option_map (λ x. v % 2 ^ bit_count f) old

-- the fields, where one is set
abbrev pub fields_set : Field → ℕ → (Field → Option ℕ) → Field → Option ℕ
fields_set f v map g = if number_of g == number_of f then value_after g v (map g) else map g

-- ---- tags: type, PCP, DEI, VID of each, the outermost first, which alone has fields

abbrev pub vid_of : List (List ℕ) → ℕ
vid_of [] = 0
vid_of (t ∷ ts) = 4096 + slice_index t 3

abbrev pub pcp_of : List (List ℕ) → Option ℕ
pcp_of [] = None
pcp_of (t ∷ ts) = Some (slice_index t 1)

-- the fields, with these tags instead
abbrev pub fields_tagged : List (List ℕ) → (Field → Option ℕ) → Field → Option ℕ
fields_tagged tags map VlanVid = Some (vid_of tags)
fields_tagged tags map VlanPcp = pcp_of tags
fields_tagged tags map f = map f
