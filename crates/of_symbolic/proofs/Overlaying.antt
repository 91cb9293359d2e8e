-- The fields of the packet, in terms of those of the frame that came in.
use Rattle.std.proofs.Common.{◌≡◌, ℕ, true, List, [], ◌∷◌, Option, Some, None, refl, ap, ◌∙◌}
use Rattle.std.specs.{Prelude.slice_get, Option.option_map}
use Rattle.of_layers.specs.declared.field.Field.{Field}
use Rattle.of_layers.specs.declared.field.Field.TheVariants.{InPort, Metadata, VlanVid, VlanPcp}
use Rattle.of_headers.specs.FieldMap.{value, vid}
use Rattle.of_rewrite.specs.Views.{Tag, View, fields_seen, outermost}
use Rattle.of_actions.specs.declared.action.Action.{Action}
use Rattle.of_symbolic.specs.Overlaid.{is_field_known, is_number_known, is_tag_known, overlaid, tag_number, tag_of_packet}
use Rattle.of_symbolic.specs.Tags.{AreTagsAfter, IsNumber, is_inner, own_tag, own_tags, tags_from}
use Rattle.of_symbolic.specs.{declared.overlay.Overlay.Overlay, declared.overlay.PushedTag.PushedTag, declared.overlay.ReceivedTag.ReceivedTag, declared.overlay.TagNumber.TagNumber}
use Rattle.of_symbolic.specs.declared.overlay.TagNumber.TheVariants.{Unknown}
use Rattle.of_symbolic.{specs.Actions.view_of_actions, specs.Overlays.IsOverlay, specs.Overlays.Shows, specs.Overlays.tags_in, proofs.Showing.overlay_shows}

number_is : (k : TagNumber) (o : Option ℕ) (x : ℕ) → is_number_known k ≡ true → IsNumber k o x → x ≡ tag_number k o
number_is Unknown o x known h = absurd cc
number_is other o x known h = h

own_outermost : (k : ReceivedTag) (ts : List Tag) → outermost (own_tags k ts) ≡ option_map (own_tag k) (outermost ts)
own_outermost k [] = refl
own_outermost k (t ∷ ts) = refl

vid_is : (ps : List PushedTag) (own : Option ReceivedTag) (received tags : List Tag) → AreTagsAfter ps own received tags → is_tag_known (λ (k : PushedTag). k.vid) (slice_get ps 0) own ≡ true →
    option_map (λ (t : Tag). t.vid) (outermost tags) ≡ option_map (λ (t : Tag). t.vid) (tag_of_packet (slice_get ps 0) own (outermost received))
vid_is [] None received tags h known = absurd cc
vid_is [] (Some k) received tags h known = ap (λ (ts : List Tag). option_map (λ (t : Tag). t.vid) (outermost ts)) h ∙ ap (option_map (λ (t : Tag). t.vid)) (own_outermost k received)
vid_is (p ∷ ps) own received [] h known = absurd h
vid_is (p ∷ ps) own received (t ∷ tags) h known = ap (λ (n : ℕ). Some n) (number_is p.vid (option_map (λ (u : Tag). u.vid) (outermost received)) t.vid known h.0.vid)

pcp_is : (ps : List PushedTag) (own : Option ReceivedTag) (received tags : List Tag) → AreTagsAfter ps own received tags → is_tag_known (λ (k : PushedTag). k.pcp) (slice_get ps 0) own ≡ true →
    option_map (λ (t : Tag). t.pcp) (outermost tags) ≡ option_map (λ (t : Tag). t.pcp) (tag_of_packet (slice_get ps 0) own (outermost received))
pcp_is [] None received tags h known = absurd cc
pcp_is [] (Some k) received tags h known = ap (λ (ts : List Tag). option_map (λ (t : Tag). t.pcp) (outermost ts)) h ∙ ap (option_map (λ (t : Tag). t.pcp)) (own_outermost k received)
pcp_is (p ∷ ps) own received [] h known = absurd h
pcp_is (p ∷ ps) own received (t ∷ tags) h known = ap (λ (n : ℕ). Some n) (number_is p.pcp (option_map (λ (u : Tag). u.pcp) (outermost received)) t.pcp known h.0.pcp)

shown : (o : Overlay) (v w : View) (port metadata : ℕ) (f : Field) → Shows (value o.set) (tags_in o) v w → is_field_known o f ≡ true → fields_seen w port metadata f ≡ overlaid o metadata (fields_seen v port 0) v.tags f
shown o v w port metadata InPort h known = refl
shown o v w port metadata Metadata h known = refl
shown o v w port metadata VlanVid h known =
    ap (λ (n : Option ℕ). Some (vid n)) (vid_is o.pushed.items o.own (tags_from (is_inner o.own) v.tags) w.tags h.tags known)
shown o v w port metadata VlanPcp h known =
    pcp_is o.pushed.items o.own (tags_from (is_inner o.own) v.tags) w.tags h.tags known
shown o v w port metadata f h known = h.fields f

pub fields_shown : (o : Overlay) (l : List Action) (v : View) (port metadata : ℕ) (f : Field) → IsOverlay o l → is_field_known o f ≡ true → fields_seen (view_of_actions l v) port metadata f ≡ overlaid o metadata (fields_seen v port 0) v.tags f
fields_shown o l v port metadata f h known = shown o v (view_of_actions l v) port metadata f (overlay_shows o l v h) known
