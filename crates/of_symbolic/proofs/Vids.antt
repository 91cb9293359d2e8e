-- The VIDs of tags have 12 bits, also after actions.
use Rattle.std.proofs.Common.{ℕ, ◌^◌, ◌<◌, List, [], ◌∷◌, drop, sym, subst, arith}
use Rattle.std.specs.{Prelude.IfSome, Prelude.map, Prelude.unwrap_or, List.AllByRecursion}
use Rattle.of_layers.specs.{declared.field.Field.Field, declared.field.Field.TheVariants.VlanVid, declared.field.Field.TheVariants.VlanPcp, Layers.inner_tag, Reading.layers_of}
use Rattle.of_layers.{specs.WellFormed.FitsItems, specs.WellFormed.AreTags, proofs.FrameLemmas.are_layers}
use Rattle.of_rewrite.specs.Views.{Tag, View, IsView, outermost, outermost_set, tag_of_numbers, tag_set}
use Rattle.of_rewrite.specs.Frames.{IsFrame}
use Rattle.of_actions.specs.declared.action.Action.{Action}
use Rattle.of_actions.specs.declared.action.Action.TheVariants as actions
use Rattle.of_symbolic.specs.{Actions.call_of, Actions.view_by, Actions.view_of_actions, Overlays.HasVids}

abbrev AreSmall : List Tag → Type 0
AreSmall ts = AllByRecursion (λ (t : Tag). t.vid < 2 ^ 12) ts

pub first_small : (ts : List Tag) → AreSmall ts → IfSome (outermost ts) (λ t. t.vid < 2 ^ 12)
first_small [] h = tt
first_small (t ∷ ts) h = h.0

new_small : (ts : List Tag) → AreSmall ts → (unwrap_or (outermost ts) (record { vid = 0; pcp = 0 })).vid < 2 ^ 12
new_small [] h = omega arith
new_small (t ∷ ts) h = h.0

pub rest_small : (ts : List Tag) → AreSmall ts → AreSmall (drop 1 ts)
rest_small [] h = tt
rest_small (t ∷ ts) h = h.1

tag_small : (f : Field) (v : ℕ) (t : Tag) → t.vid < 2 ^ 12 → (tag_set f v t).vid < 2 ^ 12
tag_small VlanVid v t h = omega arith
tag_small VlanPcp v t h = h
tag_small f v t h = h

set_small : (f : Field) (v : ℕ) (ts : List Tag) → AreSmall ts → AreSmall (outermost_set f v ts)
set_small f v [] h = tt
set_small f v (t ∷ ts) h = (tag_small f v t h.0, h.1)

one_small : (a : Action) (v : View) → HasVids v → HasVids (view_by (call_of a) v)
one_small (actions.PushVlan type) v h = (new_small v.tags h, h)
one_small actions.PopVlan v h = rest_small v.tags h
one_small (actions.SetField f n) v h = set_small f n v.tags h
one_small other v h = h

pub all_small : (l : List Action) (v : View) → HasVids v → HasVids (view_of_actions l v)
all_small [] v h = h
all_small (a ∷ l) v h = all_small l (view_by (call_of a) v) (one_small a v h)

-- ---- frames

pub four_small : (t : List ℕ) → FitsItems inner_tag t → (tag_of_numbers t).vid < 2 ^ 12
four_small [] h = absurd h
four_small (a ∷ []) h = absurd h.1
four_small (a ∷ b ∷ []) h = absurd h.1.1
four_small (a ∷ b ∷ c ∷ []) h = absurd h.1.1.1
four_small (a ∷ b ∷ c ∷ d ∷ rest) h = h.1.1.1.0

tags_small : (ts : List (List ℕ)) → AreTags ts → AreSmall (map tag_of_numbers ts)
tags_small [] h = tt
tags_small (t ∷ ts) h = (four_small t h.0, tags_small ts h.2)

pub frame_small : (frame : List ℕ) (v : View) → IsFrame frame → IsView v frame → HasVids v
frame_small s v h is = subst AreSmall (sym is.tags) (tags_small (layers_of s).tags (are_layers s h.1 h.0).tags)
