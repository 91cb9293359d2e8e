-- For contracts inside this crate: what is known of the frames while some runs are not done.
use Rattle.std.specs.Prelude.{◌≡◌, ℕ, ◌⊎◌, List, [], map, true, ⊤}
use Rattle.std.specs.List.{Contains}
use Rattle.of_oxm.specs.{declared.match_field.MatchField.MatchField, Relations.matches_map}
use Rattle.of_machine.specs.TheWorld.{TheWorld}
use Rattle.of_symbolic.specs.Parts.{received_fields}
use Rattle.of_symbolic_run.specs.{declared.dividing.Case.Case, Cases.AreCases, FrameSets.FindsFrame, FrameSets.InFrames, NextStates.AreNextStates, Received.IsReceivedAt, Received.items_at}
use Rattle.of_symbolic_run.specs.{Sides.IsUnknownLookup, States.items_for}
use Rattle.of_symbolic_run.specs.declared.finding.FrameFound.TheVariants as found
use Rattle.of_paths.specs.Paths.{AreMerged, InClasses, InUndecidedFrames, IsPath, IsPathClass}
use Rattle.of_paths.specs.{declared.path.Merging.Merging, declared.path.Merging.TheVariants.Each, declared.path.Merging.TheVariants.SameWay, declared.path.Path.Path}
use Rattle.of_paths.specs.{declared.path.PathClass.PathClass, declared.path.Paths.Paths, declared.path.UndecidedFrames.UndecidedFrames}
use Rattle.of_paths.specs.{declared.path.WhyUndecided.TheVariants.Search, declared.path.WhyUndecided.TheVariants.UnknownTag, declared.stepping.Next.Next}
use Rattle.of_paths.specs.{Reasons.AreMatched, Reasons.AreUndecided, Reasons.IsStateOfRuns, Ways.class_way, Ways.lines_at, Ways.way_of}
use Rattle.of_paths.specs.declared.stepping.Next.TheVariants as next

abbrev pub InCases : List Case → List ℕ → ℕ → Type 0
InCases cases frame port = (c : Case) × Contains cases c × InFrames c.frames frame port

-- each frame of a state that is received takes the steps of a path, and emits what they emit
pub record AreRunsOf (w : TheWorld) (old : Case) (p : Path) : Type 0 where
  pub takes : (frame : List ℕ) (port : ℕ) → IsReceivedAt w frame port → InFrames old.frames frame port → lines_at w frame port ≡ p.steps.items
  pub emits : (frame : List ℕ) (port : ℕ) → IsReceivedAt w frame port → InFrames old.frames frame port → items_at w frame port ≡ items_for w.ports p.emitted.items frame port

-- what comes of a state for some frames
abbrev pub IsNextOf : TheWorld → Case → Next → Type 0
IsNextOf w old (next.Cases cases) = AreCases w old.frames old.state cases.items × AreNextStates w old.state cases.items
IsNextOf w old (next.Ended p) =
    (p.frames ≡ old.frames) × (old.state.tasks.items ≡ []) × (p.steps.items ≡ old.state.steps.items) × (p.emitted.items ≡ old.state.emitted.items) × (IsStateOfRuns w old → AreRunsOf w old p)
IsNextOf w old (next.Undecided u) = (u.frames ≡ old.frames) × (u.why ≡ UnknownTag) × IsUnknownLookup old.frames.inner w old.state

-- what was found is right
pub record AreFoundSoFar (merging : Merging) (w : TheWorld) (within : List MatchField) (steps : ℕ) (found : Paths) : Type 0 where
  pub classes : (c : PathClass) → Contains found.classes.items c → IsPathClass w within c
  pub merged : AreMerged merging found.classes.items
  pub undecided : (u : UndecidedFrames) → Contains found.undecided.items u → AreUndecided w within steps u

-- the frame is in it
abbrev pub IsFoundIn : Paths → List ℕ → ℕ → Type 0
IsFoundIn found frame port = InClasses found.classes.items frame port ⊎ InUndecidedFrames found.undecided.items frame port

-- the frames of a path, if none of them was found
abbrev pub unfound : Path → UndecidedFrames
unfound p = record { frames = p.frames; why = Search }

-- they are undecided for a reason
abbrev pub IsUndecidedIfUnfound : TheWorld → List MatchField → ℕ → Path → Type 0
IsUndecidedIfUnfound w within steps p = FindsFrame p.frames steps found.Undecided → AreUndecided w within steps (unfound p)

-- a path was put to it
pub record PutsPath (merging : Merging) (w : TheWorld) (steps : ℕ) (p : Path) (old new : Paths) : Type 0 where
  pub found : (within : List MatchField) → IsPath w within p → IsUndecidedIfUnfound w within steps p → AreFoundSoFar merging w within steps old → AreFoundSoFar merging w within steps new
  pub own : (frame : List ℕ) (port : ℕ) → IsReceivedAt w frame port → InFrames p.frames frame port → IsFoundIn new frame port
  pub kept : (frame : List ℕ) (port : ℕ) → IsFoundIn old frame port → IsFoundIn new frame port

-- no class has its way, if sets of one way are merged
abbrev pub IsOtherWay : Merging → Paths → Path → Type 0
IsOtherWay SameWay found p = Contains (map class_way found.classes.items) (way_of p.steps.items) → ⊥
IsOtherWay Each found p = ⊤

-- a path was put to it, and to no class that was there
abbrev pub PutsAlone : TheWorld → ℕ → Path → Paths → Paths → Type 0
PutsAlone w steps p old new = (merging : Merging) → IsOtherWay merging old p → PutsPath merging w steps p old new

-- all that is known while cases are left
pub record ArePathsSoFar (merging : Merging) (w : TheWorld) (within : List MatchField) (steps : ℕ) (cases : List Case) (found : Paths) : Type 0 where
  pub hold : (c : Case) → Contains cases c → IsStateOfRuns w c
  pub inside : (c : Case) → Contains cases c → AreMatched w within c.frames
  pub right : AreFoundSoFar merging w within steps found
  pub all : (frame : List ℕ) (port : ℕ) → IsReceivedAt w frame port → matches_map within (received_fields frame port) ≡ true → InCases cases frame port ⊎ IsFoundIn found frame port
