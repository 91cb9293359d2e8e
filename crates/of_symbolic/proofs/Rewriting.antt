-- The view of a frame after several actions.
use Rattle.std.proofs.Common.{ℕ, List, [], ◌∷◌, Option, Some, None}
use Rattle.std.specs.Prelude.{IfSome}
use Rattle.of_rewrite.specs.{Calls.FrameCall, Calls.IsAllowed, Frames.IsFrame, Views.View, Views.IsAction, Views.IsView}
use Rattle.of_rewrite.proofs.{Calling.still_frame, Viewing.view_follows}
use Rattle.of_actions.specs.declared.action.Action.{Action}
use Rattle.of_actions.specs.declared.action.Action.TheVariants as actions
use Rattle.of_symbolic.specs.Actions.{IsRewriting, AreRewriting, call_of, view_by, frame_by, view_of_actions, frame_of_actions}

-- the call of an action is no loan, and is allowed if the action is a rewriting one
no_loan : (a : Action) → IfSome (call_of a) IsAction
no_loan actions.PopVlan = tt
no_loan other = tt

allowed : (a : Action) (s : List ℕ) → IsRewriting a → IfSome (call_of a) (λ c. IsAllowed c s)
allowed (actions.PushVlan type) s r = r
allowed (actions.SetField f v) s r = r
allowed other s r = tt

frame_by_call : (c : Option FrameCall) (s : List ℕ) → IsFrame s → IfSome c (λ x. IsAllowed x s) → IsFrame (frame_by c s)
frame_by_call None s h a = h
frame_by_call (Some c) s h a = still_frame c s h a

view_by_call : (c : Option FrameCall) (s : List ℕ) (v : View) → IsFrame s → IfSome c IsAction → IfSome c (λ x. IsAllowed x s) → IsView v s → IsView (view_by c v) (frame_by c s)
view_by_call None s v h n a is = is
view_by_call (Some c) s v h n a is = view_follows c s v h n a is

pub stays_frame : (l : List Action) (s : List ℕ) → IsFrame s → AreRewriting l → IsFrame (frame_of_actions l s)
stays_frame [] s h r = h
stays_frame (a ∷ l) s h r = stays_frame l (frame_by (call_of a) s) (frame_by_call (call_of a) s h (allowed a s r.0)) r.1

pub views_follow_all : (l : List Action) (s : List ℕ) (v : View) → IsFrame s → AreRewriting l → IsView v s → IsView (view_of_actions l v) (frame_of_actions l s)
views_follow_all [] s v h r is = is
views_follow_all (a ∷ l) s v h r is = views_follow_all l (frame_by (call_of a) s) (view_by (call_of a) v) (frame_by_call (call_of a) s h (allowed a s r.0)) r.1 (view_by_call (call_of a) s v h (no_loan a) (allowed a s r.0) is)
