-- WHAT IS KNOWN OF A PACKET that actions rewrote, in terms of the frame that came in (OpenFlow 1.3.5, 5.12).
use Rattle.std.specs.Prelude.{◌≡◌, ℕ, ◌%◌, ◌^◌, ◌<◌, ◌==◌, if◌then◌else◌, List, Option, Some, None}
use Rattle.std.specs.{List.AllByRecursion, List.fold, Option.option_map}
use Rattle.of_layers.specs.{declared.field.Field.Field, Fields.number_of, Fields.bit_count}
use Rattle.of_headers.specs.FieldMap.{value}
use Rattle.of_rewrite.specs.Views.{Tag, View}
use Rattle.of_actions.specs.declared.action.Action.{Action}
use Rattle.of_actions.specs.declared.action.Action.TheVariants as actions
use Rattle.of_symbolic.specs.Tags.{Tags, AreTagsAfter, is_inner, tags_from, tags_of_actions}
use Rattle.of_symbolic.specs.declared.overlay.Overlay.{Overlay}

-- the value that SET_FIELD sets a field to: as many bits as the field has
abbrev pub value_by : Action → Field → Option ℕ → Option ℕ
value_by (actions.SetField field v) f old = if number_of f == number_of field then Some (v % 2 ^ bit_count f) else old
value_by other f old = old

-- the last value that a field was set to
abbrev pub value_set : List Action → Field → Option ℕ
value_set l f = fold (λ old a. value_by a f old) None l

abbrev pub tags_in : Overlay → Tags
tags_in o = record { pushed = o.pushed.items; own = o.own }

-- the overlay of a packet after these actions, the first one first
pub record IsOverlay (o : Overlay) (l : List Action) : Type 0 where
  pub set : (f : Field) → value o.set f ≡ value_set l f
  pub tags : tags_in o ≡ tags_of_actions o.inner l

-- ---- what it says

-- a field that was set has that value, if the frame has the field
abbrev pub with_value : Option ℕ → Option ℕ → Option ℕ
with_value None received = received
with_value (Some n) received = option_map (λ x. n) received

-- The view of a packet, where `received` is that of the frame that came in: what fields were set to, and what is known of tags. The TTL is no match field.
pub record Shows (set : Field → Option ℕ) (k : Tags) (received packet : View) : Type 0 where
  pub fields : (f : Field) → packet.fields f ≡ with_value (set f) (received.fields f)
  pub tags : AreTagsAfter k.pushed k.own (tags_from (is_inner k.own) received.tags) packet.tags

-- the VID of each tag has 12 bits (IEEE 802.1Q, 9.6)
abbrev pub HasVids : View → Type 0
HasVids v = AllByRecursion (λ (t : Tag). t.vid < 2 ^ 12) v.tags
