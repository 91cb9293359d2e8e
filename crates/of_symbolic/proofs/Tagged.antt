-- A match that asks for a tag of the frame: over a frame without that tag, it asks for a VID that the packet does not have.
use Rattle.std.proofs.Common.{◌≡◌, ℕ, ◌+◌, ◌%◌, Bool, true, false, eqb, List, [], ◌∷◌, Option, Some, None, refl, sym, ap, ◌∙◌}
use Rattle.std.specs.Prelude.{bit_and, is_some, not, slice_get, ◌&&◌, ◌||◌}
use Rattle.std.{specs.List.list_all, specs.List.list_any, specs.Option.option_map, proofs.lemmas.Bool.eqb-false, proofs.lemmas.Bool.ne_eqb, proofs.lemmas.Nat.and_mod}
use Rattle.of_layers.specs.{declared.field.Field.Field, declared.field.Field.TheVariants.VlanVid}
use Rattle.of_headers.specs.FieldMap.{vid}
use Rattle.of_oxm.specs.{declared.match_field.MatchField.MatchField, Relations.agrees, Relations.bits_looked_at, Relations.matches_map}
use Rattle.of_rewrite.specs.Views.{Tag, View, fields_seen, outermost}
use Rattle.of_actions.specs.declared.action.Action.{Action}
use Rattle.of_symbolic.specs.{declared.overlay.Overlay.Overlay, declared.overlay.PushedTag.PushedTag, declared.overlay.ReceivedTag.ReceivedTag, declared.overlay.TagNumber.TagNumber}
use Rattle.of_symbolic.specs.{declared.overlay.TagNumber.TheVariants.Received, Actions.view_of_actions, Asking.asks_tag, Asking.asks_vid, Asking.asks_vid_at, Asking.is_received, Overlays.IsOverlay}
use Rattle.of_symbolic.{specs.Tags.AreTagsAfter, specs.Tags.IsNumber, specs.Tags.is_inner, specs.Tags.tags_from, proofs.InnerLemmas.has_own_tag, proofs.Showing.overlay_shows}
use Rattle.of_symbolic.proofs.VidBits.{zero_and}

pub and_parts : (a b : Bool) → (a && b) ≡ true → (a ≡ true) × (b ≡ true)
and_parts true b h = (refl, h)
and_parts false b h = absurd cc

-- ---- the VIDs that a match asks for

-- each of them agrees
abbrev pub vids_agree : List MatchField → (Field → Option ℕ) → Bool
vids_agree m map = list_all (λ e. not (asks_vid e) || agrees e (map e.field)) m

pub vid_if_asked : (e : MatchField) (f : Field) → e.field ≡ f → asks_vid_at e f ≡ true → e.field ≡ VlanVid
vid_if_asked e VlanVid at h = at
vid_if_asked e f at h = absurd cc

matched_vids : (m : List MatchField) (map : Field → Option ℕ) → matches_map m map ≡ true → vids_agree m map ≡ true
matched_vids [] map h = refl
matched_vids (e ∷ m) map h =
    let both = and_parts (agrees e (map e.field)) (matches_map m map) h in
    one (asks_vid e) (agrees e (map e.field)) (vids_agree m map) both.0 (matched_vids m map both.1)
  where
    one : (a b c : Bool) → b ≡ true → c ≡ true → ((not a || b) && c) ≡ true
    one true b c h k = λ i. h i && k i
    one false b c h k = k

-- VLAN_VID of a tag with VID 0 has none of its bits
disagrees : (e : MatchField) → eqb (e.value % 4096) 0 ≡ false → agrees e (Some 4096) ≡ false
disagrees e n =
    let low : bit_and 4096 (bits_looked_at e) % 4096 ≡ 0 = and_mod 4096 (bits_looked_at e) 12 ∙ zero_and (bits_looked_at e % 4096) in
    ne_eqb _ _ (λ s. eqb-false _ _ n (ap (λ (x : ℕ). x % 4096) (sym s) ∙ low))

disagrees_at : (e : MatchField) (f : Field) (map : Field → Option ℕ) → map VlanVid ≡ Some 4096 → asks_vid_at e f ≡ true → agrees e (map f) ≡ false
disagrees_at e VlanVid map z h = ap (agrees e) z ∙ disagrees e (not_true (eqb (e.value % 4096) 0) h)
  where
    not_true : (b : Bool) → not b ≡ true → b ≡ false
    not_true true h = absurd cc
    not_true false h = refl
disagrees_at e f map z h = absurd cc

none_agree : (m : List MatchField) (map : Field → Option ℕ) → map VlanVid ≡ Some 4096 → list_any asks_vid m ≡ true → vids_agree m map ≡ false
none_agree [] map z h = absurd cc
none_agree (e ∷ m) map z h = one (asks_vid e) (agrees e (map e.field)) (list_any asks_vid m) (vids_agree m map) (disagrees_at e e.field map z) (none_agree m map z) h
  where
    one : (a b c d : Bool) → (a ≡ true → b ≡ false) → (c ≡ true → d ≡ false) → (a || c) ≡ true → ((not a || b) && d) ≡ false
    one true b c d f g h = ap (λ (x : Bool). x && d) (f refl)
    one false b c d f g h = g h

-- ---- over a frame without the tag

zero_received : (k : TagNumber) (received : Option Tag) (x : ℕ) → is_received k ≡ true → is_some received ≡ false → IsNumber k (option_map (λ (t : Tag). t.vid) received) x → x ≡ 0
zero_received Received None x r none is = is
zero_received Received (Some t) x r none is = absurd cc
zero_received k received x r none is = absurd cc

zero_vid : (ps : List PushedTag) (own : Option ReceivedTag) (received tags : List Tag) (m : List MatchField) → asks_tag (slice_get ps 0) m ≡ true → is_some (outermost received) ≡ false → AreTagsAfter ps own received tags
    → vid (option_map (λ (t : Tag). t.vid) (outermost tags)) ≡ 4096
zero_vid [] own received tags m asks none h = absurd cc
zero_vid (p ∷ ps) own received [] m asks none h = absurd h
zero_vid (p ∷ ps) own received (t ∷ tags) m asks none h =
    ap (λ (x : ℕ). 4096 + x) (zero_received p.vid (outermost received) t.vid (and_parts (is_received p.vid) (list_any asks_vid m) asks).0 none h.0.vid)

some_vid : (p : Option PushedTag) (m : List MatchField) → asks_tag p m ≡ true → list_any asks_vid m ≡ true
some_vid None m asks = absurd cc
some_vid (Some p) m asks = (and_parts (is_received p.vid) (list_any asks_vid m) asks).1

pub untagged_vids : (o : Overlay) (m : List MatchField) → asks_tag (slice_get o.pushed.items 0) m ≡ true → (l : List Action) → IsOverlay o l → (v : View) (port metadata : ℕ) → has_own_tag o v ≡ false
    → vids_agree m (fields_seen (view_of_actions l v) port metadata) ≡ false
untagged_vids o m asks l h v port metadata none =
    none_agree m (fields_seen (view_of_actions l v) port metadata)
    (ap Some (zero_vid o.pushed.items o.own (tags_from (is_inner o.own) v.tags) (view_of_actions l v).tags m asks none (overlay_shows o l v h).tags)) (some_vid (slice_get o.pushed.items 0) m asks)

false_if : (a b : Bool) → (a ≡ true → b ≡ true) → b ≡ false → a ≡ false
false_if true b f h = absurd (let odd : true ≡ false = sym (f refl) ∙ h in cc)
false_if false b f h = refl

-- what matches only if those VIDs agree does not match
pub untagged_unmatched : (o : Overlay) (m : List MatchField) → asks_tag (slice_get o.pushed.items 0) m ≡ true → (l : List Action) → IsOverlay o l → (v : View) (port metadata : ℕ) → has_own_tag o v ≡ false
    → (b : Bool) → (b ≡ true → vids_agree m (fields_seen (view_of_actions l v) port metadata) ≡ true) → b ≡ false
untagged_unmatched o m asks l h v port metadata none b f = false_if b _ f (untagged_vids o m asks l h v port metadata none)

pub untagged_false : (o : Overlay) (m : List MatchField) → asks_tag (slice_get o.pushed.items 0) m ≡ true → (l : List Action) → IsOverlay o l → (v : View) (port metadata : ℕ) → has_own_tag o v ≡ false
    → matches_map m (fields_seen (view_of_actions l v) port metadata) ≡ false
untagged_false o m asks l h v port metadata none =
    let map = fields_seen (view_of_actions l v) port metadata in
    untagged_unmatched o m asks l h v port metadata none (matches_map m map) (matched_vids m map)
