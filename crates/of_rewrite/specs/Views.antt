-- The view of a frame: the values that lookups compare and that actions change (OpenFlow 1.3.5, 5.3, 5.12 and 7.2.3.7).
use Rattle.std.specs.Prelude.{◌≡◌, ℕ, ◌-◌, ◌%◌, ◌^◌, ◌==◌, nat_le, ⊤, if◌then◌else◌, List, [], ◌∷◌, drop, map, slice_index, Option, Some, None, option_map, unwrap_or}
use Rattle.of_layers.specs.declared.field.Field.{Field}
use Rattle.of_layers.specs.declared.field.Field.TheVariants.{InPort, Metadata, VlanVid, VlanPcp}
use Rattle.of_layers.specs.{Fields.number_of, Fields.bit_count, Layers.Layers, Layers.Cell, Layers.cells, Looking.look, Reading.layers_of}
use Rattle.of_headers.specs.FieldMap.{vid}
use Rattle.of_rewrite.specs.Calls.{FrameCall, PushVlan, PopVlan, Set, SetTtl, DecTtl, Lend}
use Rattle.of_rewrite.specs.TimeToLive.{ttl_of}

-- a VLAN tag (IEEE 802.1Q, 9.6)
pub record Tag : Type 0 where
  pub vid : ℕ
  pub pcp : ℕ

-- The match fields of all headers except VLAN tags; the VLAN tags, the outermost first; the TTL of IPv4 or the hop limit of IPv6. A value that the frame does not have is None.
pub record View : Type 0 where
  pub fields : Field → Option ℕ
  pub tags : List Tag
  pub ttl : Option ℕ

-- ---- the view of a frame

-- a field of a header, unless that is a VLAN tag
abbrev pub header_field : List Cell → Field → Option ℕ
header_field cs VlanVid = None
header_field cs VlanPcp = None
header_field cs f = look f cs

-- the numbers of a tag are its type, PCP, DEI and VID
abbrev pub tag_of_numbers : List ℕ → Tag
tag_of_numbers numbers = record { vid = slice_index numbers 3; pcp = slice_index numbers 1 }

abbrev pub view_in : Layers → View
view_in l = record { fields = header_field (cells l); tags = map tag_of_numbers l.tags; ttl = ttl_of l }

abbrev pub view_of : List ℕ → View
view_of frame = view_in (layers_of frame)

-- the views agree in each field, in the tags and in the TTL
pub record AreSameViews (v w : View) : Type 0 where
  pub fields : (f : Field) → v.fields f ≡ w.fields f
  pub tags : v.tags ≡ w.tags
  pub ttl : v.ttl ≡ w.ttl

-- the frame has this view
abbrev pub IsView : View → List ℕ → Type 0
IsView v frame = AreSameViews v (view_of frame)

-- ---- what a lookup sees (5.3)

abbrev pub outermost : List Tag → Option Tag
outermost [] = None
outermost (t ∷ ts) = Some t

-- The fields of a packet with this view, its ingress port and its metadata. VLAN_VID and VLAN_PCP are those of the outermost tag. With a tag VLAN_VID has the bit 0x1000; without one it is 0, and VLAN_PCP is absent (7.2.3.7).
abbrev pub fields_seen : View → ℕ → ℕ → Field → Option ℕ
fields_seen v port metadata InPort = Some port
fields_seen v port metadata Metadata = Some metadata
fields_seen v port metadata VlanVid = Some (vid (option_map (λ (t : Tag). t.vid) (outermost v.tags)))
fields_seen v port metadata VlanPcp = option_map (λ (t : Tag). t.pcp) (outermost v.tags)
fields_seen v port metadata f = v.fields f

-- ---- the view after an action (5.12)

-- PUSH_VLAN: a new outermost tag. Its VID and PCP are those of the tag that was outermost before, or 0 if there was none (5.12.1).
abbrev pub view_pushed : View → View
view_pushed v = record v { tags = unwrap_or (outermost v.tags) (record { vid = 0; pcp = 0 }) ∷ v.tags }

-- POP_VLAN: the outermost tag is removed, if there is one
abbrev pub view_popped : View → View
view_popped v = record v { tags = drop 1 v.tags }

-- a value that is present becomes another of so many bits; one that is absent stays absent
abbrev pub replaced_if_there : ℕ → ℕ → Option ℕ → Option ℕ
replaced_if_there bits value old = option_map (λ (x : ℕ). value % 2 ^ bits) old

-- A tag with another VID or PCP. A VID has 12 bits, so the bit 0x1000 of a value of VLAN_VID is left out.
abbrev pub tag_set : Field → ℕ → Tag → Tag
tag_set VlanVid value t = record t { vid = value % 2 ^ 12 }
tag_set VlanPcp value t = record t { pcp = value % 2 ^ 3 }
tag_set f value t = t

abbrev pub outermost_set : Field → ℕ → List Tag → List Tag
outermost_set f value [] = []
outermost_set f value (t ∷ ts) = tag_set f value t ∷ ts

-- SET_FIELD: the field gets the value, if the frame has the field. VLAN_VID and VLAN_PCP are set in the outermost tag.
abbrev pub view_set : Field → ℕ → View → View
view_set f value v = record v { fields = λ g. if number_of g == number_of f then replaced_if_there (bit_count g) value (v.fields g) else v.fields g; tags = outermost_set f value v.tags }

-- a TTL that is set: it gets the value, if the frame has a TTL
abbrev pub view_ttl : ℕ → View → View
view_ttl value v = record v { ttl = replaced_if_there 8 value v.ttl }

-- DEC_NW_TTL: the TTL is decremented by one. A TTL of 0 or 1 stays: that packet is not forwarded.
abbrev pub view_ttl_decremented : View → View
view_ttl_decremented v = record v { ttl = option_map (λ (t : ℕ). if nat_le t 1 then t else t - 1) v.ttl }

-- the call of an action: any call except a loan, by which other bytes may be written
abbrev pub IsAction : FrameCall → Type 0
IsAction (Lend field bytes) = ⊥
IsAction other = ⊤

-- a loan is the call of no action, so its line means nothing
abbrev pub view_after : FrameCall → View → View
view_after (PushVlan type) v = view_pushed v
view_after PopVlan v = view_popped v
view_after (Set field value) v = view_set field value v
view_after (SetTtl value) v = view_ttl value v
view_after DecTtl v = view_ttl_decremented v
view_after (Lend field bytes) v = v
