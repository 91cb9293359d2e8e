-- The fields that a lookup of the packet compares, in terms of those of the frame that came in (OpenFlow 1.3.5, 5.3 and 7.2.3.7).
use Rattle.std.specs.Prelude.{ℕ, Bool, List, true, false, Option, Some, None, slice_get, unwrap_or}
use Rattle.std.specs.Option.{option_map, option_map_or}
use Rattle.of_layers.specs.declared.field.Field.{Field}
use Rattle.of_layers.specs.declared.field.Field.TheVariants.{InPort, Metadata, VlanVid, VlanPcp}
use Rattle.of_headers.specs.FieldMap.{value, vid}
use Rattle.of_rewrite.specs.Views.{Tag, outermost}
use Rattle.of_symbolic.specs.{declared.overlay.Overlay.Overlay, declared.overlay.PushedTag.PushedTag, declared.overlay.ReceivedTag.ReceivedTag, declared.overlay.TagNumber.TagNumber}
use Rattle.of_symbolic.specs.declared.overlay.TagNumber.TheVariants.{Value, Received, IfTagged, Unknown}
use Rattle.of_symbolic.specs.{Overlays.with_value, Tags.is_inner, Tags.own_tag, Tags.tags_from}

-- ---- what is known

abbrev pub is_number_known : TagNumber → Bool
is_number_known Unknown = false
is_number_known other = true

abbrev pub is_tag_known : (PushedTag → TagNumber) → Option PushedTag → Option ReceivedTag → Bool
is_tag_known number (Some tag) own = is_number_known (number tag)
is_tag_known number None (Some tag) = true
is_tag_known number None None = false

-- each field is known, except those of an unknown tag
abbrev pub is_field_known : Overlay → Field → Bool
is_field_known o VlanVid = is_tag_known (λ (k : PushedTag). k.vid) (slice_get o.pushed.items 0) o.own
is_field_known o VlanPcp = is_tag_known (λ (k : PushedTag). k.pcp) (slice_get o.pushed.items 0) o.own
is_field_known o f = true

-- ---- the outermost tag of the packet

-- a number of a tag, where `received` is that of the frame's own tag, if it has one
abbrev pub tag_number : TagNumber → Option ℕ → ℕ
tag_number (Value n) received = n
tag_number Received received = unwrap_or received 0
tag_number (IfTagged n) received = option_map_or (λ y. n) received 0
tag_number Unknown received = 0

abbrev pub tag_of_packet : Option PushedTag → Option ReceivedTag → Option Tag → Option Tag
tag_of_packet (Some k) own received = Some (record { vid = tag_number k.vid (option_map (λ (t : Tag). t.vid) received); pcp = tag_number k.pcp (option_map (λ (t : Tag). t.pcp) received) })
tag_of_packet None (Some k) received = option_map (own_tag k) received
tag_of_packet None None received = None

-- the packet's, where `tags` are those of the frame that came in
abbrev pub outermost_of_packet : Overlay → List Tag → Option Tag
outermost_of_packet o tags = tag_of_packet (slice_get o.pushed.items 0) o.own (outermost (tags_from (is_inner o.own) tags))

-- ---- the whole

-- the fields of the packet at this metadata, where `map` and `tags` are those of the frame that came in
abbrev pub overlaid : Overlay → ℕ → (Field → Option ℕ) → List Tag → Field → Option ℕ
overlaid o metadata map tags InPort = map InPort
overlaid o metadata map tags Metadata = Some metadata
overlaid o metadata map tags VlanVid = Some (vid (option_map (λ (t : Tag). t.vid) (outermost_of_packet o tags)))
overlaid o metadata map tags VlanPcp = option_map (λ (t : Tag). t.pcp) (outermost_of_packet o tags)
overlaid o metadata map tags f = with_value (value o.set f) (map f)
