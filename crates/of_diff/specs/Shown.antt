-- For contracts inside this crate: a frame of a set that shows that two switches treat it otherwise.
use Rattle.std.specs.Prelude.{◌≡◌, ℕ, List}
use Rattle.of_rewrite.specs.Frames.{IsFrame}
use Rattle.of_machine.specs.TheWorld.{TheWorld}
use Rattle.of_symbolic_run.specs.{declared.frame_set.FrameSet.FrameSet, FrameSets.InFrames, Received.IsReceivedAt, Received.items_at}
use Rattle.of_alike.specs.{Alike.DiffersAt, declared.alike.Compared.Compared}
use Rattle.of_diff.specs.{Reasons.IsTriedReason, declared.ending.FrameShown.FrameShown, declared.ending.Tried.Tried}
use Rattle.of_diff.specs.declared.ending.Tried.TheVariants as tried

-- both switches receive the frame, which is in the set, and something else leaves them
pub record IsShown (c : Compared) (w v : TheWorld) (s : FrameSet) (x : FrameShown) : Type 0 where
  pub within : InFrames s x.frame.items x.in_port
  pub received_first : IsReceivedAt w x.frame.items x.in_port
  pub received_second : IsReceivedAt v x.frame.items x.in_port
  pub first : x.first.items ≡ items_at w x.frame.items x.in_port
  pub second : x.second.items ≡ items_at v x.frame.items x.in_port
  pub differs : DiffersAt c x.at x.first.items x.second.items

-- such a frame, or the set has none, or it is not known for a reason
abbrev pub TriedIs : Compared → TheWorld → TheWorld → ℕ → FrameSet → Tried → Type 0
TriedIs c w v steps s (tried.Shown x) = IsShown c w v s x
TriedIs c w v steps s tried.Empty = (frame : List ℕ) (port : ℕ) → IsFrame frame → InFrames s frame port → ⊥
TriedIs c w v steps s (tried.Undecided why) = IsTriedReason c w v steps s why
