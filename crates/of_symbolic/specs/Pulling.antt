-- WHAT A MATCH ON A PACKET that actions rewrote ASKS OF THE FRAME THAT CAME IN (OpenFlow 1.3.5, 5.3 and 7.2.3.7).
use Rattle.std.specs.Prelude.{◌≡◌, ℕ, ◌%◌, ◌==◌, Bool, true, false, not, ◌&&◌, ◌||◌, List, Option, Some, None, slice_get, ⊤}
use Rattle.std.specs.List.{list_any}
use Rattle.of_layers.specs.{declared.field.Field.Field, declared.field.Field.TheVariants.VlanVid, declared.field.Field.TheVariants.VlanPcp, Reading.layers_of}
use Rattle.of_headers.specs.FieldMap.{field_map}
use Rattle.of_oxm.specs.{declared.match_field.MatchField.MatchField, Relations.bits_looked_at, Relations.matches_map}
use Rattle.of_rewrite.specs.{Frames.IsFrame, Views.View, Views.fields_seen}
use Rattle.of_regions.specs.Conditions.{AreConditions}
use Rattle.of_actions.specs.declared.action.Action.{Action}
use Rattle.of_symbolic.specs.{declared.overlay.Overlay.Overlay, declared.overlay.PushedTag.PushedTag, declared.overlay.ReceivedTag.ReceivedTag, declared.pulling.Pulled.Pulled}
use Rattle.of_symbolic.specs.declared.pulling.Pulled.TheVariants.{Never, Unknown, When}
use Rattle.of_symbolic.specs.{Actions.frame_of_actions, Actions.view_of_actions, Asking.asks_tag, Asking.is_received, InnerTags.description_of, InnerTags.description_of_view}
use Rattle.of_symbolic.specs.{Overlaid.is_number_known, Overlays.HasVids}

-- ---- what is pulled

-- The match on the packet after these actions, with this metadata, never matches, or matches exactly if these fields match the description of the frame that came in, with its inner tag if it is told.
abbrev pub IsPulled : Bool → List Action → ℕ → List MatchField → Pulled → Type 0
IsPulled told l metadata m Never = (v : View) (port : ℕ) → HasVids v → matches_map m (fields_seen (view_of_actions l v) port metadata) ≡ false
IsPulled told l metadata m Unknown = ⊤
IsPulled told l metadata m (When fields) =
    (v : View) (port : ℕ) → HasVids v → matches_map m (fields_seen (view_of_actions l v) port metadata) ≡ matches_map fields.items (description_of_view told v port)

-- the same about frames
abbrev pub IsTrueOfFrames : Bool → List Action → ℕ → List MatchField → Pulled → Type 0
IsTrueOfFrames told l metadata m Never =
    (frame : List ℕ) (port : ℕ) → IsFrame frame → matches_map m (field_map (layers_of (frame_of_actions l frame)) port metadata) ≡ false
IsTrueOfFrames told l metadata m Unknown = ⊤
IsTrueOfFrames told l metadata m (When fields) =
    (frame : List ℕ) (port : ℕ) → IsFrame frame →
    matches_map m (field_map (layers_of (frame_of_actions l frame)) port metadata) ≡ matches_map fields.items (description_of told frame port)

-- what it asks are conditions on fields
abbrev pub AsksConditions : Pulled → Type 0
AsksConditions Never = ⊤
AsksConditions Unknown = ⊤
AsksConditions (When fields) = AreConditions fields.items

-- ---- what is unknown

-- VLAN_VID of an unknown tag: of a tag that was pushed the bit 0x1000 is known
abbrev pub is_vid_unknown : Option PushedTag → Option ReceivedTag → MatchField → Bool
is_vid_unknown (Some tag) own e = not (is_number_known tag.vid) && not (bits_looked_at e % 0x1000 == 0)
is_vid_unknown None (Some tag) e = false
is_vid_unknown None None e = true

-- VLAN_PCP of an unknown tag. A PCP of 0 that was copied says: no tag, or a tag with that PCP. No list of fields says that, unless the match asks for the tag.
abbrev pub is_pcp_unknown : Bool → Option PushedTag → Option ReceivedTag → MatchField → Bool
is_pcp_unknown tagged (Some tag) own e = not (is_number_known tag.pcp) || (is_received tag.pcp && ((e.value == 0) && not tagged))
is_pcp_unknown tagged None (Some tag) e = false
is_pcp_unknown tagged None None e = true

abbrev pub is_unknown_at : Overlay → Bool → MatchField → Field → Bool
is_unknown_at o tagged e VlanVid = is_vid_unknown (slice_get o.pushed.items 0) o.own e
is_unknown_at o tagged e VlanPcp = is_pcp_unknown tagged (slice_get o.pushed.items 0) o.own e
is_unknown_at o tagged e f = false

-- some field of the match asks what is not known of the outermost tag
abbrev pub is_unknown_in : Overlay → List MatchField → Bool
is_unknown_in o m = list_any (λ e. is_unknown_at o (asks_tag (slice_get o.pushed.items 0) m) e e.field) m
