-- DEC_NW_TTL of the first packet, for each frame (OpenFlow 1.3.5, 5.12).
use Rattle.std.specs.Prelude.{◌≡◌, ◌⊎◌, ◌++◌, ℕ, Bool, true, List, [], ◌∷◌, drop, Option, None}
use Rattle.of_layers.specs.Reading.{layers_of}
use Rattle.of_rewrite.specs.{Frames.IsFrame, TimeToLive.ttl_of}
use Rattle.of_machine.specs.TheWorld.{TheWorld}
use Rattle.of_actions.specs.declared.action.Action.{Action}
use Rattle.of_symbolic.specs.Actions.{AreRewriting, frame_of_actions}
use Rattle.of_symbolic_run.specs.{declared.dividing.Case.Case, declared.frame_set.FrameSet.FrameSet, declared.state.SymbolicState.SymbolicState, declared.state.SymbolicTask.SymbolicTask}
use Rattle.of_symbolic_run.specs.{FrameSets.AreFramesOrNone, FrameSets.AreFramesThat, NextStates.IsNextStateIf, States.IsAt, TimesToLive.expires, TimesToLive.is_last}

-- the TTL of the first packet, for a frame
abbrev pub first_ttl : List SymbolicTask → List ℕ → Option ℕ
first_ttl [] frame = None
first_ttl (t ∷ rest) frame = ttl_of (layers_of (frame_of_actions t.packet.rewrites frame))

-- the limit says for which frames it expires
abbrev pub IsLimit : List SymbolicTask → Option ℕ → Type 0
IsLimit tasks limit = (frame : List ℕ) → IsFrame frame → is_last (first_ttl tasks frame) ≡ expires limit frame

-- if it expires, or if it does not, one state follows the other, and so it does for the frames for which that is so
pub record IsDecremented (last : Bool) (old new : SymbolicState) : Type 0 where
  pub next : (w : TheWorld) → IsNextStateIf w None last old new
  pub at : (w : TheWorld) (frame : List ℕ) (port : ℕ) → IsFrame frame → is_last (first_ttl old.tasks.items frame) ≡ last → IsAt w frame port old → IsAt w frame port new

-- one more action rewrote the frame, and the first work is done
abbrev pub IsOneMoreRewrite : Action → SymbolicTask → SymbolicTask → Type 0
IsOneMoreRewrite a old new = (new.packet ≡ record old.packet { rewrites = old.packet.rewrites ++ a ∷ [] }) × (new.work.items ≡ drop 1 old.work.items) × AreRewriting old.packet.rewrites

-- one more case at most: that of the frames of which a test is true, for which it expired
pub record IsExpiredCase (test : List ℕ → Bool) (frames : FrameSet) (state : SymbolicState) (c : Case) : Type 0 where
  pub frames_are : AreFramesThat test frames c.frames
  pub state_is : IsDecremented true state c.state

abbrev pub AddsExpired : (List ℕ → Bool) → FrameSet → SymbolicState → List Case → List Case → Type 0
AddsExpired test frames state old new =
    ((new ≡ old) × AreFramesOrNone test frames None) ⊎ ((c : Case) × (new ≡ old ++ c ∷ []) × IsExpiredCase test frames state c)
