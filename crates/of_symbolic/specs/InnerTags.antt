-- THE INNER TAG of a frame that came in: the VLAN tag below the outermost one (IEEE 802.1Q, 9.5). No match field is about it. A frame comes in without metadata (OpenFlow 1.3.5, 5.1); so where inner tags are told, METADATA of its description tells them.
use Rattle.std.specs.Prelude.{ℕ, ◌+◌, ◌*◌, Bool, true, false, List, [], ◌∷◌, drop, Option, Some, None}
use Rattle.of_layers.specs.{declared.field.Field.Field, declared.field.Field.TheVariants.Metadata, declared.field.Field.TheVariants.VlanVid, Reading.layers_of}
use Rattle.of_headers.specs.FieldMap.{field_map}
use Rattle.of_oxm.specs.declared.match_field.MatchField.{MatchField}
use Rattle.of_rewrite.specs.Views.{Tag, View, fields_seen, outermost, view_of}

-- a tag in numbers: as in VLAN_VID in the low 13 bits, and its PCP above them; 0 if there is none
abbrev pub number_of_tag : Option Tag → ℕ
number_of_tag None = 0
number_of_tag (Some t) = 0x1000 + t.vid + 0x2000 * t.pcp

-- the number of the inner tag, if it is told
abbrev pub inner_told : Bool → List Tag → ℕ
inner_told false tags = 0
inner_told true tags = number_of_tag (outermost (drop 1 tags))

-- what the description of a frame with an inner tag has: an outermost tag, and the number of a tag
abbrev pub inner_tag_asked : List MatchField
inner_tag_asked =
    record { field = VlanVid; value = 0x1000; mask = Some 0x1000 } ∷ record { field = Metadata; value = 0x1000; mask = Some 0x1000 } ∷ record { field = Metadata; value = 0; mask = Some 0xffffffffffff0000 } ∷ []

-- THE DESCRIPTION of a frame that came in by a port: its fields, and its inner tag if inner tags are told
abbrev pub description_of : Bool → List ℕ → ℕ → Field → Option ℕ
description_of told frame port = field_map (layers_of frame) port (inner_told told (view_of frame).tags)

-- the same in terms of its view
abbrev pub description_of_view : Bool → View → ℕ → Field → Option ℕ
description_of_view told v port = fields_seen v port (inner_told told v.tags)
