-- What is known of a packet is so after each action.
use Rattle.std.proofs.Common.{◌≡◌, ℕ, ◌%◌, ◌^◌, Bool, true, false, cond, eqb, List, [], ◌∷◌, drop, Option, Some, None, refl, sym, ap, subst, ◌∙◌}
use Rattle.std.specs.{Prelude.not, Prelude.slice_get, Prelude.unwrap_or, Prelude.◌&&◌, List.fold, Option.option_map}
use Rattle.of_layers.specs.{declared.field.Field.Field, declared.field.Field.TheVariants.VlanVid, declared.field.Field.TheVariants.VlanPcp, Fields.number_of, Fields.bit_count}
use Rattle.of_headers.specs.FieldMap.{value}
use Rattle.of_rewrite.specs.Views.{Tag, View, outermost, outermost_set, tag_set}
use Rattle.of_actions.specs.declared.action.Action.{Action}
use Rattle.of_actions.specs.declared.action.Action.TheVariants as actions
use Rattle.of_symbolic.specs.Overlays.{IsOverlay, Shows, tags_in, value_by, value_set, with_value}
use Rattle.of_symbolic.specs.Tags.{Tags, AreTagsAfter, IsNumber, IsPushed, copied, is_inner, new_tag, no_tags, own_tag, own_tags, pushed_set, received_set, tag_below, tags_by, tags_from, tags_of_actions, tags_popped, tags_set}
use Rattle.of_symbolic.specs.{declared.overlay.Overlay.Overlay, declared.overlay.PushedTag.PushedTag, declared.overlay.ReceivedTag.ReceivedTag}
use Rattle.of_symbolic.specs.Actions.{call_of, view_by, view_of_actions}

-- ---- a tag is pushed

abbrev no_tag : Tag
no_tag = record { vid = 0; pcp = 0 }

copied_none : (n : Option ℕ) → IsNumber (copied n) None 0
copied_none None = refl
copied_none (Some n) = refl

copied_some : (n : Option ℕ) (x : ℕ) → IsNumber (copied n) (Some x) (unwrap_or n x)
copied_some None x = refl
copied_some (Some n) x = refl

above_own : (k : ReceivedTag) (received : List Tag) → IsPushed (new_tag None (Some k)) (outermost received) (unwrap_or (outermost (own_tags k received)) no_tag)
above_own k [] = record { vid = copied_none k.vid; pcp = copied_none k.pcp }
above_own k (t ∷ ts) = record { vid = copied_some k.vid t.vid; pcp = copied_some k.pcp t.pcp }

new_pushed : (ps : List PushedTag) (own : Option ReceivedTag) (received tags : List Tag) → AreTagsAfter ps own received tags → IsPushed (new_tag (slice_get ps 0) own) (outermost received) (unwrap_or (outermost tags) no_tag)
new_pushed [] None received tags h = record { vid = tt; pcp = tt }
new_pushed [] (Some k) received tags h = subst (λ (ts : List Tag). IsPushed (new_tag None (Some k)) (outermost received) (unwrap_or (outermost ts) no_tag)) (sym h) (above_own k received)
new_pushed (p ∷ ps) own received [] h = absurd h
new_pushed (p ∷ ps) own received (t ∷ tags) h = h.0

-- ---- a tag is popped

abbrev as_received : Bool → ReceivedTag
as_received inner = record { vid = None; pcp = None; inner = inner }

tags_same : (inner : Bool) (ts : List Tag) → ts ≡ own_tags (as_received inner) ts
tags_same inner [] = refl
tags_same inner (t ∷ ts) = refl

inner_same : (k : ReceivedTag) (ts : List Tag) → drop 1 (own_tags k ts) ≡ own_tags (as_received true) (drop 1 ts)
inner_same k [] = refl
inner_same k (t ∷ ts) = tags_same true ts

-- what is known of tags, where these are all tags of the frame that came in
abbrev AreAfter : List PushedTag → Option ReceivedTag → List Tag → List Tag → Type 0
AreAfter ps own received tags = AreTagsAfter ps own (tags_from (is_inner own) received) tags

popped_own : (told inner : Bool) (k : ReceivedTag) (received tags : List Tag) → tags ≡ own_tags k (tags_from inner received) → AreAfter [] (cond (told && not inner) (Some (as_received true)) None) received (drop 1 tags)
popped_own true false k received tags h = ap (drop 1) h ∙ inner_same k received
popped_own true true k received tags h = tt
popped_own false inner k received tags h = tt

popped_tags : (told : Bool) (ps : List PushedTag) (own : Option ReceivedTag) (received tags : List Tag) → AreAfter ps own received tags → AreAfter (tags_popped told ps own).pushed (tags_popped told ps own).own received (drop 1 tags)
popped_tags told [] None received tags h = tt
popped_tags told [] (Some k) received tags h = popped_own told k.inner k received tags h
popped_tags told (p ∷ ps) own received [] h = absurd h
popped_tags told (p ∷ ps) own received (t ∷ tags) h = h.1

-- ---- a field is set

pushed_is_set : (f : Field) (v : ℕ) (p : PushedTag) (received : Option Tag) (t : Tag) → IsPushed p received t → IsPushed (pushed_set f v p) received (tag_set f v t)
pushed_is_set VlanVid v p received t h = record { vid = refl; pcp = h.pcp }
pushed_is_set VlanPcp v p received t h = record { vid = h.vid; pcp = refl }
pushed_is_set f v p received t h = h

own_is_set : (f : Field) (v : ℕ) (k : ReceivedTag) (t : Tag) → tag_set f v (own_tag k t) ≡ own_tag (received_set f v k) t
own_is_set VlanVid v k t = refl
own_is_set VlanPcp v k t = refl
own_is_set f v k t = refl

own_are_set : (f : Field) (v : ℕ) (k : ReceivedTag) (received : List Tag) → outermost_set f v (own_tags k received) ≡ own_tags (received_set f v k) received
own_are_set f v k [] = refl
own_are_set f v k (t ∷ ts) = ap (λ (u : Tag). u ∷ ts) (own_is_set f v k t)

still_inner : (f : Field) (v : ℕ) (k : ReceivedTag) → (received_set f v k).inner ≡ k.inner
still_inner VlanVid v k = refl
still_inner VlanPcp v k = refl
still_inner f v k = refl

set_tags : (f : Field) (v : ℕ) (ps : List PushedTag) (own : Option ReceivedTag) (received tags : List Tag) → AreAfter ps own received tags → AreAfter (tags_set f v ps own).pushed (tags_set f v ps own).own received (outermost_set f v tags)
set_tags f v [] None received tags h = tt
set_tags f v [] (Some k) received tags h = ap (outermost_set f v) h ∙ own_are_set f v k (tags_from k.inner received) ∙ ap (λ (b : Bool). own_tags (received_set f v k) (tags_from b received)) (sym (still_inner f v k))
set_tags f v (p ∷ ps) own received [] h = absurd h
set_tags f v (p ∷ ps) own received (t ∷ tags) h = (pushed_is_set f v p (outermost (tags_from (is_inner own) received)) t h.0, h.1)

set_over : (n : ℕ) (o x : Option ℕ) → option_map (λ (y : ℕ). n) (with_value o x) ≡ option_map (λ (y : ℕ). n) x
set_over n None x = refl
set_over n (Some m) None = refl
set_over n (Some m) (Some x) = refl

field_set_by : (b : Bool) (n : ℕ) (o x y : Option ℕ) → y ≡ with_value o x → cond b (option_map (λ (z : ℕ). n) y) y ≡ with_value (cond b (Some n) o) x
field_set_by true n o x y h = ap (option_map (λ (z : ℕ). n)) h ∙ set_over n o x
field_set_by false n o x y h = h

-- ---- an action, and several

one_shows : (told : Bool) (a : Action) (set : Field → Option ℕ) (k : Tags) (v w : View) → Shows set k v w → Shows (λ f. value_by a f (set f)) (tags_by told a k) v (view_by (call_of a) w)
one_shows told (actions.PushVlan type) set k v w h = record { fields = h.fields; tags = (new_pushed k.pushed k.own (tags_from (is_inner k.own) v.tags) w.tags h.tags, h.tags) }
one_shows told actions.PopVlan set k v w h = record { fields = h.fields; tags = popped_tags told k.pushed k.own v.tags w.tags h.tags }
one_shows told (actions.SetField f n) set k v w h = record {
  fields = λ g. field_set_by (eqb (number_of g) (number_of f)) (n % 2 ^ bit_count g) (set g) (v.fields g) (w.fields g) (h.fields g);
  tags = set_tags f n k.pushed k.own v.tags w.tags h.tags;
}
one_shows told other set k v w h = record { fields = h.fields; tags = h.tags }

all_show : (told : Bool) (l : List Action) (set : Field → Option ℕ) (k : Tags) (v w : View) → Shows set k v w → Shows (λ f. fold (λ old a. value_by a f old) (set f) l) (fold (λ j a. tags_by told a j) k l) v (view_of_actions l w)
all_show told [] set k v w h = record { fields = h.fields; tags = h.tags }
all_show told (a ∷ l) set k v w h = all_show told l (λ f. value_by a f (set f)) (tags_by told a k) v (view_by (call_of a) w) (one_shows told a set k v w h)

pub overlay_shows : (o : Overlay) (l : List Action) (v : View) → IsOverlay o l → Shows (value o.set) (tags_in o) v (view_of_actions l v)
overlay_shows o l v h =
    let all : Shows (value_set l) (tags_of_actions o.inner l) v (view_of_actions l v) = all_show o.inner l (λ f. None) no_tags v v (record { fields = λ f. refl; tags = tags_same false v.tags }) in
    record {
      fields = λ f. all.fields f ∙ ap (λ (x : Option ℕ). with_value x (v.fields f)) (sym (h.set f));
      tags = subst (λ (k : Tags). AreAfter k.pushed k.own v.tags (view_of_actions l v).tags) (sym h.tags) all.tags;
    }

-- ---- the inner tag

-- it is known only where it is told
abbrev IsInnerIfTold : Bool → Tags → Type 0
IsInnerIfTold told k = is_inner k.own ≡ true → told ≡ true

below_told : (told : Bool) (own : Option ReceivedTag) → is_inner (tag_below told own) ≡ true → told ≡ true
below_told told None e = absurd cc
below_told true (Some k) e = refl
below_told false (Some k) e = absurd cc

one_told : (told : Bool) (a : Action) (ps : List PushedTag) (own : Option ReceivedTag) → IsInnerIfTold told (record { pushed = ps; own = own }) → IsInnerIfTold told (tags_by told a (record { pushed = ps; own = own }))
one_told told actions.PopVlan [] own h = below_told told own
one_told told (actions.SetField f n) [] (Some k) h = λ e. h (sym (still_inner f n k) ∙ e)
one_told told other ps own h = h

all_told : (told : Bool) (l : List Action) (k : Tags) → IsInnerIfTold told k → IsInnerIfTold told (fold (λ j a. tags_by told a j) k l)
all_told told [] k h = h
all_told told (a ∷ l) k h = all_told told l (tags_by told a k) (one_told told a k.pushed k.own h)

pub inner_if_told : (o : Overlay) (l : List Action) → IsOverlay o l → is_inner o.own ≡ true → o.inner ≡ true
inner_if_told o l h e = all_told o.inner l no_tags (λ x. absurd (let odd : false ≡ true = x in cc)) (sym (ap (λ (k : Tags). is_inner k.own) h.tags) ∙ e)
