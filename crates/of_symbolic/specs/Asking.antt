-- For contracts inside this crate: what one field of a match asks of the frame that came in.
use Rattle.std.specs.Prelude.{ℕ, ◌+◌, ◌*◌, ◌/◌, ◌%◌, ◌==◌, ◌&&◌, Bool, true, false, not, if◌then◌else◌, List, Option, Some, None, slice_get}
use Rattle.std.specs.List.{list_any}
use Rattle.of_layers.specs.declared.field.Field.{Field}
use Rattle.of_layers.specs.declared.field.Field.TheVariants.{InPort, Metadata, VlanVid, VlanPcp}
use Rattle.of_headers.specs.FieldMap.{value}
use Rattle.of_oxm.specs.{declared.match_field.MatchField.MatchField, Relations.bits_looked_at, Relations.agrees}
use Rattle.of_symbolic.specs.declared.asking.Asked.{Asked}
use Rattle.of_symbolic.specs.declared.asking.Asked.TheVariants.{Never, Open, Nothing, Asks}
use Rattle.of_symbolic.specs.{declared.overlay.Overlay.Overlay, declared.overlay.PushedTag.PushedTag, declared.overlay.ReceivedTag.ReceivedTag, declared.overlay.TagNumber.TagNumber}
use Rattle.of_symbolic.specs.declared.overlay.TagNumber.TheVariants.{Value, Received, IfTagged, Unknown}
use Rattle.of_symbolic.specs.Tags.{is_inner}

-- ---- matches that ask for a tag of the frame

-- the number of a pushed tag is that of the frame's own tag, or 0 if it has none
abbrev pub is_received : TagNumber → Bool
is_received Received = true
is_received other = false

-- a field of a match asks for a VID with some bit that is not 0
abbrev pub asks_vid_at : MatchField → Field → Bool
asks_vid_at e VlanVid = not (e.value % 0x1000 == 0)
asks_vid_at e f = false

abbrev pub asks_vid : MatchField → Bool
asks_vid e = asks_vid_at e e.field

-- The outermost tag was pushed with the VID of the frame's own tag, and the match asks for a VID with some bit that is not 0.
-- If the frame has no such tag, the pushed one has VID 0 (5.12.1). So only frames with the tag can match.
abbrev pub asks_tag : Option PushedTag → List MatchField → Bool
asks_tag (Some tag) m = is_received tag.vid && list_any asks_vid m
asks_tag None m = false

-- ---- what a field asks

-- a field of a match that agrees with each value of the field
abbrev pub any_value : Field → MatchField
any_value f = record { field = f; value = 0; mask = Some 0 }

-- a frame with a tag has the bit 0x1000 in VLAN_VID, and one without a tag lacks it (7.2.3.7)
abbrev pub with_tag : MatchField
with_tag = record { field = VlanVid; value = 0x1000; mask = Some 0x1000 }

abbrev pub without_tag : MatchField
without_tag = record { field = VlanVid; value = 0; mask = Some 0x1000 }

-- by whether the field of the match agrees if the frame has a tag, and if it has none
abbrev pub by_tag : Bool → Bool → Asked
by_tag true true = Nothing
by_tag true false = Asks with_tag
by_tag false true = Asks without_tag
by_tag false false = Never

-- a field that was set to a value, or was not set
abbrev pub field_asked : Option ℕ → MatchField → Asked
field_asked None e = Asks e
field_asked (Some n) e = if agrees e (Some n) then Asks (any_value e.field) else Never

-- the 12 bits of a VID in VLAN_VID
abbrev pub vid_bits : MatchField → MatchField
vid_bits e = record { field = VlanVid; value = e.value % 0x1000; mask = Some (bits_looked_at e % 0x1000) }

-- VLAN_VID of a packet with a tag: its bit 0x1000 is set, and `rest` is what the other bits ask
abbrev pub tagged_vid : MatchField → Asked → Asked
tagged_vid e rest = if not (bits_looked_at e / 0x1000 == e.value / 0x1000) then Never else if bits_looked_at e % 0x1000 == 0 then Nothing else rest

abbrev pub pushed_vid : TagNumber → MatchField → Asked
pushed_vid (Value n) e = by_tag (agrees e (Some (0x1000 + n))) (agrees e (Some (0x1000 + n)))
pushed_vid (IfTagged n) e = by_tag (agrees e (Some (0x1000 + n))) (agrees e (Some 0x1000))
pushed_vid Received e = tagged_vid e (Asks (vid_bits e))
pushed_vid Unknown e = tagged_vid e Open

abbrev pub own_vid : Option ℕ → MatchField → Asked
own_vid None e = Asks e
own_vid (Some n) e = by_tag (agrees e (Some (0x1000 + n))) (agrees e (Some 0))

abbrev pub vid_asked : Option PushedTag → Option ReceivedTag → MatchField → Asked
vid_asked (Some tag) own e = pushed_vid tag.vid e
vid_asked None (Some tag) e = own_vid tag.vid e
vid_asked None None e = Open

-- A PCP of 0 that was copied says: no tag, or a tag with that PCP. No list of fields says that.
-- But where the match asks for the tag, the PCP is asked of it as it is.
abbrev pub pushed_pcp : Bool → TagNumber → MatchField → Asked
pushed_pcp tagged (Value n) e = by_tag (agrees e (Some n)) (agrees e (Some n))
pushed_pcp tagged (IfTagged n) e = by_tag (agrees e (Some n)) (agrees e (Some 0))
pushed_pcp tagged Received e = if e.value == 0 && not tagged then Open else Asks e
pushed_pcp tagged Unknown e = Open

abbrev pub own_pcp : Option ℕ → MatchField → Asked
own_pcp None e = Asks e
own_pcp (Some n) e = by_tag (agrees e (Some n)) false

abbrev pub pcp_asked : Bool → Option PushedTag → Option ReceivedTag → MatchField → Asked
pcp_asked tagged (Some tag) own e = pushed_pcp tagged tag.pcp e
pcp_asked tagged None (Some tag) e = own_pcp tag.pcp e
pcp_asked tagged None None e = Open

-- a condition on a tag, as one on METADATA, which tells the inner tag
abbrev pub inner_field : Field → MatchField → MatchField
inner_field VlanPcp e = record { field = Metadata; value = 0x1000 + 0x2000 * (e.value % 8); mask = Some (0x1000 + 0x2000 * (bits_looked_at e % 8)) }
inner_field f e = record { field = Metadata; value = e.value; mask = Some (bits_looked_at e) }

-- what is asked of the outermost tag, or of the inner one
abbrev pub asked_of_tag : Bool → Asked → Asked
asked_of_tag true (Asks e) = Asks (inner_field e.field e)
asked_of_tag inner asked = asked

-- by the field, and by whether the match asks for a tag of the frame
abbrev pub asked_at : Overlay → ℕ → Bool → MatchField → Field → Asked
asked_at o metadata tagged e InPort = Asks e
asked_at o metadata tagged e Metadata = if agrees e (Some metadata) then Nothing else Never
asked_at o metadata tagged e VlanVid = asked_of_tag (is_inner o.own) (vid_asked (slice_get o.pushed.items 0) o.own e)
asked_at o metadata tagged e VlanPcp = asked_of_tag (is_inner o.own) (pcp_asked tagged (slice_get o.pushed.items 0) o.own e)
asked_at o metadata tagged e f = field_asked (value o.set f) e

abbrev pub asked_of_frame : Overlay → ℕ → Bool → MatchField → Asked
asked_of_frame o metadata tagged e = asked_at o metadata tagged e e.field
