-- FRAMES WITH GIVEN FIELDS (OpenFlow 1.3.5, 7.2.3.7). A frame has the headers of its shape, and a tag or none. Each field that such frames have gets the number that is given for it, or as many of its low bits as the field has.
use Rattle.std.specs.Prelude.{ℕ, ◌+◌, ◌%◌, ◌^◌, if◌then◌else◌, slice_index, unwrap_or, Option, Some, None}
use Rattle.of_layers.specs.declared.field.Field.TheVariants.{InPort, Metadata, EthType, VlanVid, VlanPcp, IpProto}
use Rattle.of_layers.specs.{declared.field.Field.Field, Fields.number_of, Fields.bit_count, Fields.prerequisite_of}
use Rattle.of_layers.specs.declared.field.Prerequisite.TheVariants as needs
use Rattle.of_headers.specs.{declared.numbers.Numbers.Numbers, Numbers.numbers_in}
use Rattle.of_frames.specs.{declared.shape.Shape.Shape, declared.shape.Tagging.Tagging, declared.shape.Tagging.TheVariants.Untagged, declared.shape.Tagging.TheVariants.Tagged}
use Rattle.of_frames.specs.Rules.{has_header, shape_type, protocol_of}

-- the numbers of a key, each by its field
abbrev pub number : Numbers → Field → ℕ
number n f = slice_index (numbers_in n) (number_of f)

-- the values of a field map; 0 where a field is absent
abbrev pub or_zero : (Field → Option ℕ) → Field → ℕ
or_zero map f = unwrap_or (map f) 0

-- the number that is given for a field, in the bits of the field
abbrev pub given_number : (Field → ℕ) → Field → ℕ
given_number v f = v f % 2 ^ bit_count f

-- the type and the protocol: those that name the headers, if there are such, or else those that are given
abbrev pub type_given : Shape → (Field → ℕ) → ℕ
type_given s v = unwrap_or (shape_type s) (given_number v EthType)

abbrev pub protocol_given : Shape → (Field → ℕ) → ℕ
protocol_given s v = unwrap_or (protocol_of s) (given_number v IpProto)

-- the VID of the tag: the low 12 bits of VLAN_VID
abbrev pub vid_given : (Field → ℕ) → ℕ
vid_given v = v VlanVid % 4096

-- VLAN_VID is 0 without a tag; with one it has the bit OFPVID_PRESENT
abbrev pub vlan_vid_given : Tagging → (Field → ℕ) → ℕ
vlan_vid_given Untagged v = 0
vlan_vid_given Tagged v = 4096 + vid_given v

abbrev pub vlan_pcp_given : Tagging → (Field → ℕ) → Option ℕ
vlan_pcp_given Untagged v = None
vlan_pcp_given Tagged v = Some (given_number v VlanPcp)

-- the fields of the frame, received at a port, with metadata
abbrev pub fields_given : Shape → Tagging → (Field → ℕ) → ℕ → ℕ → Field → Option ℕ
fields_given s t v port metadata InPort = Some port
fields_given s t v port metadata Metadata = Some metadata
fields_given s t v port metadata VlanVid = Some (vlan_vid_given t v)
fields_given s t v port metadata VlanPcp = vlan_pcp_given t v
fields_given s t v port metadata EthType = Some (type_given s v)
fields_given s t v port metadata IpProto = if has_header s needs.Ip then Some (protocol_given s v) else None
fields_given s t v port metadata f = if has_header s (prerequisite_of f) then Some (given_number v f) else None
