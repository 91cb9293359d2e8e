-- WHAT IS KNOWN OF THE VLAN TAGS of a packet after actions, in terms of the tags of the frame that came in (OpenFlow 1.3.5, 5.12).
use Rattle.std.specs.Prelude.{◌≡◌, ℕ, ◌%◌, ◌^◌, Bool, true, false, not, ◌&&◌, if◌then◌else◌, drop, List, [], ◌∷◌, ◌++◌, Option, Some, None, slice_get, unwrap_or, ⊤}
use Rattle.std.specs.{List.fold, Option.option_map, Option.option_map_or}
use Rattle.of_layers.specs.{declared.field.Field.Field, declared.field.Field.TheVariants.VlanVid, declared.field.Field.TheVariants.VlanPcp}
use Rattle.of_rewrite.specs.Views.{Tag, outermost}
use Rattle.of_actions.specs.declared.action.Action.{Action}
use Rattle.of_actions.specs.declared.action.Action.TheVariants as actions
use Rattle.of_symbolic.specs.{declared.overlay.PushedTag.PushedTag, declared.overlay.ReceivedTag.ReceivedTag, declared.overlay.TagNumber.TagNumber}
use Rattle.of_symbolic.specs.declared.overlay.TagNumber.TheVariants.{Value, Received, IfTagged, Unknown}

-- The tags that were pushed, the outermost first; and the tag of the frame that came in that is below them: its outermost one, or its inner one if POP_VLAN popped that. None if nothing is known of it.
pub record Tags : Type 0 where
  pub pushed : List PushedTag
  pub own : Option ReceivedTag

-- ---- what is known after an action

-- a number of the frame's own tag, as a tag that is pushed over it copies it
abbrev pub copied : Option ℕ → TagNumber
copied None = Received
copied (Some n) = IfTagged n

-- the VID and PCP that a new tag has: those of the outermost tag, or 0 if there is none (5.12.1)
abbrev pub new_tag : Option PushedTag → Option ReceivedTag → PushedTag
new_tag (Some tag) own = tag
new_tag None (Some tag) = record { vid = copied tag.vid; pcp = copied tag.pcp }
new_tag None None = record { vid = Unknown; pcp = Unknown }

-- below the outermost tag is the inner one, if inner tags are told; of the tags below that nothing is known
abbrev pub tag_below : Bool → Option ReceivedTag → Option ReceivedTag
tag_below told None = None
tag_below told (Some tag) = if told && not tag.inner then Some (record { vid = None; pcp = None; inner = true }) else None

-- POP_VLAN without a pushed tag pops that of the frame that came in
abbrev pub tags_popped : Bool → List PushedTag → Option ReceivedTag → Tags
tags_popped told [] own = record { pushed = []; own = tag_below told own }
tags_popped told (tag ∷ rest) own = record { pushed = rest; own = own }

abbrev pub pushed_set : Field → ℕ → PushedTag → PushedTag
pushed_set VlanVid value tag = record tag { vid = Value (value % 2 ^ 12) }
pushed_set VlanPcp value tag = record tag { pcp = Value (value % 2 ^ 3) }
pushed_set f value tag = tag

abbrev pub received_set : Field → ℕ → ReceivedTag → ReceivedTag
received_set VlanVid value tag = record tag { vid = Some (value % 2 ^ 12) }
received_set VlanPcp value tag = record tag { pcp = Some (value % 2 ^ 3) }
received_set f value tag = tag

-- SET_FIELD changes the outermost tag
abbrev pub tags_set : Field → ℕ → List PushedTag → Option ReceivedTag → Tags
tags_set f value [] own = record { pushed = []; own = option_map (received_set f value) own }
tags_set f value (tag ∷ rest) own = record { pushed = pushed_set f value tag ∷ rest; own = own }

abbrev pub tags_by : Bool → Action → Tags → Tags
tags_by told (actions.PushVlan type) k = record k { pushed = new_tag (slice_get k.pushed 0) k.own ∷ k.pushed }
tags_by told actions.PopVlan k = tags_popped told k.pushed k.own
tags_by told (actions.SetField field value) k = tags_set field value k.pushed k.own
tags_by told other k = k

-- before any action no tag was pushed, and that of the frame is as it was received
abbrev pub no_tags : Tags
no_tags = record { pushed = []; own = Some (record { vid = None; pcp = None; inner = false }) }

-- after actions, the first one first
abbrev pub tags_of_actions : Bool → List Action → Tags
tags_of_actions told = fold (λ k a. tags_by told a k) no_tags

-- one of the actions is a POP_VLAN before which no pushed tag was left
pub record PopsOwn (told : Bool) (l : List Action) : Type 0 where
  pub before : List Action
  pub after : List Action
  pub is : l ≡ before ++ actions.PopVlan ∷ after
  pub none : (tags_of_actions told before).pushed ≡ []

-- ---- what that says about tags

-- the number is that of a tag, where `received` is that of the frame's own tag, if it has one
abbrev pub IsNumber : TagNumber → Option ℕ → ℕ → Type 0
IsNumber (Value n) received x = x ≡ n
IsNumber Received received x = x ≡ unwrap_or received 0
IsNumber (IfTagged n) received x = x ≡ option_map_or (λ y. n) received 0
IsNumber Unknown received x = ⊤

pub record IsPushed (k : PushedTag) (received : Option Tag) (tag : Tag) : Type 0 where
  pub vid : IsNumber k.vid (option_map (λ (t : Tag). t.vid) received) tag.vid
  pub pcp : IsNumber k.pcp (option_map (λ (t : Tag). t.pcp) received) tag.pcp

-- the tag of the frame that came in, with the numbers that were set
abbrev pub own_tag : ReceivedTag → Tag → Tag
own_tag k t = record { vid = unwrap_or k.vid t.vid; pcp = unwrap_or k.pcp t.pcp }

abbrev pub own_tags : ReceivedTag → List Tag → List Tag
own_tags k [] = []
own_tags k (t ∷ ts) = own_tag k t ∷ ts

-- the tags of the frame that came in from that one on
abbrev pub is_inner : Option ReceivedTag → Bool
is_inner None = false
is_inner (Some tag) = tag.inner

abbrev pub tags_from : Bool → List Tag → List Tag
tags_from false tags = tags
tags_from true tags = drop 1 tags

-- nothing may be known of it
abbrev pub AreOwn : Option ReceivedTag → List Tag → List Tag → Type 0
AreOwn None received tags = ⊤
AreOwn (Some k) received tags = tags ≡ own_tags k received

-- the tags of the packet, where `received` are those of the frame that came in, from its own tag on
abbrev pub AreTagsAfter : List PushedTag → Option ReceivedTag → List Tag → List Tag → Type 0
AreTagsAfter [] own received tags = AreOwn own received tags
AreTagsAfter (k ∷ ks) own received [] = ⊥
AreTagsAfter (k ∷ ks) own received (tag ∷ tags) = IsPushed k (outermost received) tag × AreTagsAfter ks own received tags
