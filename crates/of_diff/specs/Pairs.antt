-- For contracts inside this crate: the states of both runs for some frames.
use Rattle.std.specs.Prelude.{◌≡◌, ℕ, ◌⊎◌, List, [], ◌∷◌, ⊤}
use Rattle.std.specs.List.{Contains}
use Rattle.of_rewrite.specs.Frames.{IsFrame}
use Rattle.of_machine.specs.TheWorld.{TheWorld}
use Rattle.of_symbolic_run.specs.{declared.dividing.Case.Case, declared.joint.JointCase.JointCase, declared.state.SymbolicState.SymbolicState, FrameSets.InFrames, States.IsAt, States.IsStateCopy}
use Rattle.of_symbolic_run.specs.Received.{AreReceived, IsReceivedAt}
use Rattle.of_diff.specs.{Differences.InDifferences, Differences.InSets, Differences.IsTreatedAlike, Differences.IsDifference, declared.difference.Difference.Difference, declared.pair.Pair.Pair}
use Rattle.of_alike.specs.{declared.alike.Compared.Compared, declared.alike.Where.Where}

-- both states are those of the runs of each frame, and each frame comes in by a port that receives
pub record AreStatesOfRuns (w v : TheWorld) (p : Pair) : Type 0 where
  pub at : (frame : List ℕ) (port : ℕ) → IsFrame frame → InFrames p.frames frame port → IsAt w frame port p.first × IsAt v frame port p.second
  pub received : AreReceived w.ports p.frames

abbrev pub InPairs : List Pair → List ℕ → ℕ → Type 0
InPairs pairs frame port = (p : Pair) × Contains pairs p × InFrames p.frames frame port

-- one pair for each case, in order
abbrev pub AreLinedUp : (Case → Pair → Type 0) → List Case → List Pair → Type 0
AreLinedUp of [] [] = ⊤
AreLinedUp of [] (p ∷ pairs) = ⊥
AreLinedUp of (c ∷ cases) [] = ⊥
AreLinedUp of (c ∷ cases) (p ∷ pairs) = of c p × AreLinedUp of cases pairs

-- the cases of the first run, each with the state of the second
abbrev pub IsByFirst : SymbolicState → Case → Pair → Type 0
IsByFirst second c p = (p.frames ≡ c.frames) × (p.first ≡ c.state) × IsStateCopy second p.second

abbrev pub AreByFirst : List Case → SymbolicState → List Pair → Type 0
AreByFirst cases second pairs = AreLinedUp (IsByFirst second) cases pairs

-- and those of the second, each with the state of the first
abbrev pub IsBySecond : SymbolicState → Case → Pair → Type 0
IsBySecond first c p = (p.frames ≡ c.frames) × (p.second ≡ c.state) × IsStateCopy first p.first

abbrev pub AreBySecond : SymbolicState → List Case → List Pair → Type 0
AreBySecond first cases pairs = AreLinedUp (IsBySecond first) cases pairs

-- each frame of a pair is in one of these, whose states are those of its frames, or is treated alike
pub record ArePairs (c : Compared) (w v : TheWorld) (old : Pair) (pairs : List Pair) : Type 0 where
  pub hold : AreStatesOfRuns w v old → (p : Pair) → Contains pairs p → AreStatesOfRuns w v p
  pub all : AreStatesOfRuns w v old → (frame : List ℕ) (port : ℕ) → IsReceivedAt w frame port → InFrames old.frames frame port → InPairs pairs frame port ⊎ IsTreatedAlike c w v frame port

-- the pair of a case of both states
abbrev pub pair_of_case : JointCase → Pair
pair_of_case c = record { frames = c.frames; first = c.first; second = c.second }

abbrev pub place_of_difference : Difference → Where
place_of_difference d = d.at

-- a difference was put to others: each is one if it was, and no frame of its sets or of theirs is lost
pub record PutsDifference (d : Difference) (old new : List Difference) : Type 0 where
  pub real : (c : Compared) (w v : TheWorld) → IsDifference c w v d → ((x : Difference) → Contains old x → IsDifference c w v x) → (x : Difference) → Contains new x → IsDifference c w v x
  pub own : (frame : List ℕ) (port : ℕ) → InSets d.sets.items frame port → InDifferences new frame port
  pub kept : (frame : List ℕ) (port : ℕ) → InDifferences old frame port → InDifferences new frame port
