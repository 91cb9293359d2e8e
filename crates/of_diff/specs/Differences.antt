-- FRAMES THAT TWO SWITCHES TREAT ALIKE, and differences (OpenFlow 1.3.5, 5.1).
use Rattle.std.specs.Prelude.{◌≡◌, ℕ, List, [], ◌∷◌}
use Rattle.std.specs.List.{Contains}
use Rattle.of_machine.specs.TheWorld.{TheWorld}
use Rattle.of_symbolic_run.specs.{declared.frame_set.FrameSet.FrameSet, FrameSets.InFrames, Received.IsReceivedAt, Received.items_at}
use Rattle.of_alike.specs.{Alike.DiffersAt, Alike.LeavesAlike, declared.alike.Compared.Compared, declared.alike.Where.Where}
use Rattle.of_diff.specs.{declared.difference.Difference.Difference, declared.difference.Undecided.Undecided}

-- both switches treat a frame alike
abbrev pub IsTreatedAlike : Compared → TheWorld → TheWorld → List ℕ → ℕ → Type 0
IsTreatedAlike c w v frame port = LeavesAlike c (items_at w frame port) (items_at v frame port)

-- the frame is in one of these sets
abbrev pub InSets : List FrameSet → List ℕ → ℕ → Type 0
InSets sets frame port = (s : FrameSet) × Contains sets s × InFrames s frame port

-- the frame is in the first of these sets
abbrev pub InFirst : List FrameSet → List ℕ → ℕ → Type 0
InFirst [] frame port = ⊥
InFirst (s ∷ sets) frame port = InFrames s frame port

-- both switches receive some frame of the set for which something else leaves there
abbrev pub SomeDiffers : Compared → TheWorld → TheWorld → Where → FrameSet → Type 0
SomeDiffers c w v at s =
    (frame : List ℕ) × (port : ℕ) × InFrames s frame port × IsReceivedAt w frame port × IsReceivedAt v frame port × DiffersAt c at (items_at w frame port) (items_at v frame port)

-- both switches receive the frame, which is in the first set, and something else leaves them: each ran it; and so it is for some frame of each set
pub record IsDifference (c : Compared) (w v : TheWorld) (d : Difference) : Type 0 where
  pub received_first : IsReceivedAt w d.frame.items d.in_port
  pub received_second : IsReceivedAt v d.frame.items d.in_port
  pub within : InFirst d.sets.items d.frame.items d.in_port
  pub each : (s : FrameSet) → Contains d.sets.items s → SomeDiffers c w v d.at s
  pub first : d.first.items ≡ items_at w d.frame.items d.in_port
  pub second : d.second.items ≡ items_at v d.frame.items d.in_port
  pub differs : DiffersAt c d.at (items_at w d.frame.items d.in_port) (items_at v d.frame.items d.in_port)

-- the frame is in a set of one of these
abbrev pub InDifferences : List Difference → List ℕ → ℕ → Type 0
InDifferences found frame port = (d : Difference) × Contains found d × InSets d.sets.items frame port

-- it is not known whether the frame is treated alike
abbrev pub InUndecided : List Undecided → List ℕ → ℕ → Type 0
InUndecided undecided frame port = (u : Undecided) × Contains undecided u × InFrames u.frames frame port
