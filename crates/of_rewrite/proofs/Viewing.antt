-- The view of a frame after an action, and what a lookup sees of it.
use Rattle.std.proofs.Common.{◌≡◌, ℕ, ◌-◌, ◌%◌, ◌^◌, ◌<◌, Bool, true, false, cond, eqb, List, [], ◌∷◌, Option, Some, None, refl, sym, ap, subst, ◌∙◌, arith}
use Rattle.std.{specs.Prelude.IsTrue, specs.Prelude.nat_le, specs.Prelude.map, specs.Option.option_map, proofs.Math.Nat.mod-eq_of_lt}
use Rattle.of_layers.specs.Layers.{Layers, cells, outer_tag, inner_tag, ttl}
use Rattle.of_layers.specs.declared.field.Field.{Field}
use Rattle.of_layers.specs.declared.field.Field.TheVariants.{InPort, Metadata, VlanVid, VlanPcp}
use Rattle.of_layers.specs.{Fields.row_of, Fields.number_of, Fields.is_settable, Reading.layers_of, WellFormed.FitsItems, WellFormed.AreTags, WellFormed.IsLayers}
use Rattle.of_layers.proofs.FrameLemmas.{are_layers}
use Rattle.of_headers.specs.{FieldMap.field_map, FieldMap.vid, Tags.pushed, Tags.popped}
use Rattle.of_rewrite.specs.Calls.{FrameCall, PushVlan, PopVlan, Set, SetTtl, DecTtl, Lend, IsAllowed, frame_after}
use Rattle.of_rewrite.specs.Views.{Tag, View, header_field, tag_of_numbers, view_in, view_of, AreSameViews, IsView, outermost, fields_seen, view_pushed, view_popped, replaced_if_there, tag_set, outermost_set, view_set, view_ttl, IsAction, view_after}
use Rattle.of_rewrite.proofs.Layering.{layers_after_set, layers_after_ttl, layers_after_decrement, layers_after_push, layers_after_pop}
use Rattle.of_rewrite.proofs.Looking.{field_found, not_set, ttl_kept, field_kept, ttl_found, look_untagged, in_outermost, vid_found, pcp_found}
use Rattle.of_rewrite.specs.{Frames.IsFrame, Replaced.numbers_with, Replaced.tags_with, Replaced.layers_set, TimeToLive.ttl_of, TimeToLive.layers_ttl_decremented}
use Rattle.of_rewrite.proofs.{Finding.Sound, Unset.frame_stands, Widths.found_small, Widths.layers_wide, Widths.ttl_wide}

-- ---- same views

pub chained : (u v w : View) → AreSameViews u v → AreSameViews v w → AreSameViews u w
chained u v w a b = record { fields = λ f. a.fields f ∙ b.fields f; tags = a.tags ∙ b.tags; ttl = a.ttl ∙ b.ttl }

-- an action makes the same views of the same
pub same_after : (call : FrameCall) (v w : View) → AreSameViews v w → AreSameViews (view_after call v) (view_after call w)
same_after (PushVlan type) v w h = record { fields = h.fields; tags = ap (λ (ts : List Tag). (view_pushed (record v { tags = ts })).tags) h.tags; ttl = h.ttl }
same_after PopVlan v w h = record { fields = h.fields; tags = ap (λ (ts : List Tag). (view_popped (record v { tags = ts })).tags) h.tags; ttl = h.ttl }
same_after (Set f value) v w h = record {
  fields = λ g. ap (λ (x : Option ℕ). cond (eqb (number_of g) (number_of f)) (option_map (λ (y : ℕ). value % 2 ^ (row_of g).bits) x) x) (h.fields g);
  tags = ap (outermost_set f value) h.tags;
  ttl = h.ttl;
}
same_after (SetTtl value) v w h = record { fields = h.fields; tags = h.tags; ttl = ap (replaced_if_there 8 value) h.ttl }
same_after DecTtl v w h = record { fields = h.fields; tags = h.tags; ttl = ap (option_map (λ (t : ℕ). cond (nat_le t 1) t (t - 1))) h.ttl }
same_after (Lend f bytes) v w h = h

-- ---- a tag is pushed or popped

other_field : (ts : List (List ℕ)) (l : Layers) (g : Field) → header_field (cells l) g ≡ header_field (cells (record l { tags = ts })) g
unfolding row_of
other_field ts l VlanVid = refl
other_field ts l VlanPcp = refl
other_field ts l g = sym (look_untagged (number_of g) ts l refl)

tags_pushed : (type : ℕ) (l : Layers) (ts : List (List ℕ)) → (view_pushed (view_in (record l { tags = ts }))).tags ≡ (view_in (pushed type (record l { tags = ts }))).tags
tags_pushed type l [] = refl
tags_pushed type l (t ∷ ts) = refl

pushed_view : (type : ℕ) (l : Layers) → AreSameViews (view_pushed (view_in l)) (view_in (pushed type l))
unfolding row_of
pushed_view type l = record { fields = other_field (pushed type l).tags l; tags = tags_pushed type l l.tags; ttl = sym (look_untagged ttl (pushed type l).tags l refl) }

tags_popped : (l : Layers) (ts : List (List ℕ)) → (view_popped (view_in (record l { tags = ts }))).tags ≡ (view_in (popped (record l { tags = ts }))).tags
tags_popped l [] = refl
tags_popped l (t ∷ ts) = refl

popped_view : (l : Layers) → AreSameViews (view_popped (view_in l)) (view_in (popped l))
unfolding row_of
popped_view l = record { fields = other_field (popped l).tags l; tags = tags_popped l l.tags; ttl = sym (look_untagged ttl (popped l).tags l refl) }

-- ---- a field is set

none_set : (t : Bool) (x : Option ℕ) → x ≡ None → cond t x None ≡ None
none_set true x e = e
none_set false x e = refl

set_fields : (f : Field) (v : ℕ) (l : Layers) → IsTrue (is_settable f) → (g : Field) → (view_set f v (view_in l)).fields g ≡ header_field (cells (layers_set (number_of f) v l)) g
set_fields f v l settable VlanVid = none_set (eqb (number_of VlanVid) (number_of f)) None refl
set_fields f v l settable VlanPcp = none_set (eqb (number_of VlanPcp) (number_of f)) None refl
set_fields f v l settable g = sym (field_found f v settable l g)

-- the numbers of a tag: that of the field, and no checksum
four_set : (f : Field) (v : ℕ) (g k : ℕ → ℕ) (a b c d : ℕ) →
    tag_set f v (tag_of_numbers (a ∷ b ∷ c ∷ d ∷ [])) ≡ tag_of_numbers (numbers_with 103 k outer_tag (numbers_with 102 g outer_tag (numbers_with (number_of f) (λ x. v) outer_tag (a ∷ b ∷ c ∷ d ∷ []))))
unfolding row_of
four_set VlanVid v g k a b c d = refl
four_set VlanPcp v g k a b c d = refl
four_set f v g k a b c d = refl

four_numbers : (t : List ℕ) → FitsItems inner_tag t → (P : List ℕ → Type 0) → ((a b c d : ℕ) → P (a ∷ b ∷ c ∷ d ∷ [])) → P t
four_numbers [] h P p = absurd h
four_numbers (a ∷ []) h P p = absurd h.1
four_numbers (a ∷ b ∷ []) h P p = absurd h.1.1
four_numbers (a ∷ b ∷ c ∷ []) h P p = absurd h.1.1.1
four_numbers (a ∷ b ∷ c ∷ d ∷ []) h P p = p a b c d
four_numbers (a ∷ b ∷ c ∷ d ∷ e ∷ rest) h P p = absurd h.1.1.1.1

set_tags : (f : Field) (v : ℕ) (g k : ℕ → ℕ) (ts : List (List ℕ)) → AreTags ts →
    outermost_set f v (map tag_of_numbers ts) ≡ map tag_of_numbers (tags_with 103 k (tags_with 102 g (tags_with (number_of f) (λ x. v) ts)))
set_tags f v g k [] h = refl
set_tags f v g k (t ∷ ts) h = λ j. four_numbers t h.0 (λ x. tag_set f v (tag_of_numbers x) ≡ tag_of_numbers (numbers_with 103 k outer_tag (numbers_with 102 g outer_tag (numbers_with (number_of f) (λ y. v) outer_tag x)))) (four_set f v g k) j ∷ map tag_of_numbers ts

view_is_set : (f : Field) (v : ℕ) (l : Layers) → IsTrue (is_settable f) → IsLayers l → AreSameViews (view_set f v (view_in l)) (view_in (layers_set (number_of f) v l))
unfolding layers_set
view_is_set f v l settable h = record { fields = set_fields f v l settable; tags = set_tags f v _ _ l.tags h.tags; ttl = sym (ttl_kept f v settable l) }

-- ---- the TTL is set

ttl_fields : (v : ℕ) (l : Layers) (g : Field) → header_field (cells l) g ≡ header_field (cells (layers_set ttl v l)) g
ttl_fields v l VlanVid = refl
ttl_fields v l VlanPcp = refl
ttl_fields v l g = sym (field_kept v l g)

four_kept : (v : ℕ) (g k : ℕ → ℕ) (a b c d : ℕ) → tag_of_numbers (a ∷ b ∷ c ∷ d ∷ []) ≡ tag_of_numbers (numbers_with 103 k outer_tag (numbers_with 102 g outer_tag (numbers_with ttl (λ x. v) outer_tag (a ∷ b ∷ c ∷ d ∷ []))))
unfolding row_of
four_kept v g k a b c d = refl

ttl_tags : (v : ℕ) (g k : ℕ → ℕ) (ts : List (List ℕ)) → AreTags ts → map tag_of_numbers ts ≡ map tag_of_numbers (tags_with 103 k (tags_with 102 g (tags_with ttl (λ x. v) ts)))
ttl_tags v g k [] h = refl
ttl_tags v g k (t ∷ ts) h = λ j. four_numbers t h.0 (λ x. tag_of_numbers x ≡ tag_of_numbers (numbers_with 103 k outer_tag (numbers_with 102 g outer_tag (numbers_with ttl (λ y. v) outer_tag x)))) (four_kept v g k) j ∷ map tag_of_numbers ts

ttl_view : (v : ℕ) (l : Layers) → IsLayers l → AreSameViews (view_ttl v (view_in l)) (view_in (layers_set ttl v l))
unfolding layers_set
ttl_view v l h = record { fields = ttl_fields v l; tags = ttl_tags v _ _ l.tags h.tags; ttl = sym (ttl_found v l) }

-- ---- the TTL is decremented

abbrev one_less : ℕ → ℕ
one_less t = cond (nat_le t 1) t (t - 1)

less_view : (t : ℕ) (l : Layers) → IsLayers l → Sound (cells l) → ttl_of l ≡ Some t → AreSameViews (record (view_in l) { ttl = Some (t - 1) }) (view_in (layers_set ttl (t - 1) l))
less_view t l h sound is =
    let small : t < 2 ^ 8 = found_small ttl 8 t (cells l) (layers_wide ttl 8 ttl_wide l) sound is in
    let cut : (t - 1) % 2 ^ 8 ≡ t - 1 = mod-eq_of_lt (omega arith) in
    let set : AreSameViews (view_ttl (t - 1) (view_in l)) (view_in (layers_set ttl (t - 1) l)) = ttl_view (t - 1) l h in
    record { fields = set.fields; tags = set.tags; ttl = sym (ap (replaced_if_there 8 (t - 1)) is ∙ ap (λ (x : ℕ). Some x) cut) ∙ set.ttl }

less_or_same : (t : ℕ) (l : Layers) → IsLayers l → Sound (cells l) → ttl_of l ≡ Some t → (b : Bool) → AreSameViews (record (view_in l) { ttl = Some (cond b t (t - 1)) }) (view_in (cond b l (layers_set ttl (t - 1) l)))
less_or_same t l h sound is true = record { fields = λ f. refl; tags = refl; ttl = sym is }
less_or_same t l h sound is false = less_view t l h sound is

decremented_by : (o : Option ℕ) (l : Layers) → IsLayers l → Sound (cells l) → ttl_of l ≡ o → AreSameViews (record (view_in l) { ttl = option_map one_less o }) (view_in (layers_ttl_decremented o l))
decremented_by None l h sound is = record { fields = λ f. refl; tags = refl; ttl = sym is }
decremented_by (Some t) l h sound is = less_or_same t l h sound is (nat_le t 1)

-- ---- frames

by_layers : (v : View) (frame : List ℕ) (l : Layers) → layers_of frame ≡ l → AreSameViews v (view_in l) → IsView v frame
by_layers v frame l e h = subst (λ (x : Layers). AreSameViews v (view_in x)) (sym e) h

own_view : (call : FrameCall) (s : List ℕ) → IsFrame s → IsAction call → IsAllowed call s → IsView (view_after call (view_of s)) (frame_after call s)
own_view (PushVlan type) s h a k = by_layers _ _ (pushed type (layers_of s)) (layers_after_push type s h k) (pushed_view type (layers_of s))
own_view PopVlan s h a k = by_layers _ _ (popped (layers_of s)) (layers_after_pop s h) (popped_view (layers_of s))
own_view (Set f v) s h a k = by_layers _ _ (layers_set (number_of f) v (layers_of s)) (layers_after_set f v s h k) (view_is_set f v (layers_of s) k (are_layers s h.1 h.0))
own_view (SetTtl v) s h a k = by_layers _ _ (layers_set ttl v (layers_of s)) (layers_after_ttl v s h) (ttl_view v (layers_of s) (are_layers s h.1 h.0))
own_view DecTtl s h a k =
    by_layers _ _ (layers_ttl_decremented (ttl_of (layers_of s)) (layers_of s)) (layers_after_decrement s h)
    (decremented_by (ttl_of (layers_of s)) (layers_of s) (are_layers s h.1 h.0) (frame_stands s h.1 h.0).is_sound refl)
own_view (Lend f bytes) s h a k = absurd a

pub view_follows : (call : FrameCall) (frame : List ℕ) (v : View) → IsFrame frame → IsAction call → IsAllowed call frame → IsView v frame → IsView (view_after call v) (frame_after call frame)
view_follows call s v h a k is = chained (view_after call v) (view_after call (view_of s)) (view_of (frame_after call s)) (same_after call v (view_of s) is) (own_view call s h a k)

-- ---- what may not be set

pub fixed_stays : (call : FrameCall) (frame : List ℕ) (v : View) (f : Field) → IsAllowed call frame → is_settable f ≡ false → (view_after call v).fields f ≡ v.fields f
fixed_stays (Set g value) frame v f k h = sym (not_set g value k f (v.fields f) (replaced_if_there (row_of f).bits value (v.fields f)) h)
fixed_stays (PushVlan type) frame v f k h = refl
fixed_stays other frame v f k h = refl

-- ---- lookups

vid_outermost : (ts : List (List ℕ)) → in_outermost 3 ts ≡ option_map (λ (t : Tag). t.vid) (outermost (map tag_of_numbers ts))
vid_outermost [] = refl
vid_outermost (t ∷ ts) = refl

pcp_outermost : (ts : List (List ℕ)) → in_outermost 1 ts ≡ option_map (λ (t : Tag). t.pcp) (outermost (map tag_of_numbers ts))
pcp_outermost [] = refl
pcp_outermost (t ∷ ts) = refl

seen_in : (l : Layers) (v : View) (port metadata : ℕ) (f : Field) → IsLayers l → AreSameViews v (view_in l) → field_map l port metadata f ≡ fields_seen v port metadata f
seen_in l v port metadata InPort h is = refl
seen_in l v port metadata Metadata h is = refl
seen_in l v port metadata VlanVid h is = ap (λ (x : Option ℕ). Some (vid x)) (vid_found l h ∙ vid_outermost l.tags ∙ sym (ap (λ (ts : List Tag). option_map (λ (t : Tag). t.vid) (outermost ts)) is.tags))
seen_in l v port metadata VlanPcp h is = pcp_found l h ∙ pcp_outermost l.tags ∙ sym (ap (λ (ts : List Tag). option_map (λ (t : Tag). t.pcp) (outermost ts)) is.tags)
seen_in l v port metadata f h is = sym (is.fields f)

pub seen : (frame : List ℕ) (v : View) (port metadata : ℕ) (f : Field) → IsFrame frame → IsView v frame → field_map (layers_of frame) port metadata f ≡ fields_seen v port metadata f
seen s v port metadata f h is = seen_in (layers_of s) v port metadata f (are_layers s h.1 h.0) is
