-- REWRITING ACTIONS, one after the other: what they make of a frame and of its view (OpenFlow 1.3.5, 5.12).
use Rattle.std.specs.Prelude.{ℕ, List, [], ◌∷◌, Option, Some, None, IsTrue, ⊤}
use Rattle.of_layers.specs.{Fields.is_settable, Reading.is_tag_type}
use Rattle.of_rewrite.specs.Calls.{FrameCall, PushVlan, PopVlan, Set, SetTtl, DecTtl, frame_after}
use Rattle.of_rewrite.specs.Views.{View, view_after}
use Rattle.of_actions.specs.declared.action.Action.{Action}
use Rattle.of_actions.specs.declared.action.Action.TheVariants as actions

-- the call that rewrites the frame; other actions have none
abbrev pub call_of : Action → Option FrameCall
call_of (actions.PushVlan type) = Some (PushVlan type)
call_of actions.PopVlan = Some PopVlan
call_of (actions.SetNwTtl ttl) = Some (SetTtl ttl)
call_of actions.DecNwTtl = Some DecTtl
call_of (actions.SetField field value) = Some (Set field value)
call_of other = None

-- a rewriting action, which is any except OUTPUT and GROUP: PUSH_VLAN has the type of a tag, and SET_FIELD a field that may be set
abbrev pub IsRewriting : Action → Type 0
IsRewriting (actions.Output port max_len) = ⊥
IsRewriting (actions.Group group) = ⊥
IsRewriting (actions.PushVlan type) = IsTrue (is_tag_type type)
IsRewriting (actions.SetField field value) = IsTrue (is_settable field)
IsRewriting other = ⊤

abbrev pub AreRewriting : List Action → Type 0
AreRewriting [] = ⊤
AreRewriting (a ∷ rest) = IsRewriting a × AreRewriting rest

-- ---- the view and the frame after an action, and after several, the first one first

abbrev pub view_by : Option FrameCall → View → View
view_by None v = v
view_by (Some call) v = view_after call v

abbrev pub frame_by : Option FrameCall → List ℕ → List ℕ
frame_by None frame = frame
frame_by (Some call) frame = frame_after call frame

abbrev pub view_of_actions : List Action → View → View
view_of_actions [] v = v
view_of_actions (a ∷ rest) v = view_of_actions rest (view_by (call_of a) v)

abbrev pub frame_of_actions : List Action → List ℕ → List ℕ
frame_of_actions [] frame = frame
frame_of_actions (a ∷ rest) frame = frame_of_actions rest (frame_by (call_of a) frame)
