-- WHY FRAMES ARE UNDECIDED: the runs of all frames take steps together, and a set of frames may be left (OpenFlow 1.3.5, 5.1).
use Rattle.std.specs.Prelude.{◌≡◌, ◌≤◌, ◌++◌, ℕ, zero, suc, List, [], ◌∷◌, reverse, true}
use Rattle.std.specs.List.{Contains}
use Rattle.of_rewrite.specs.Frames.{IsFrame}
use Rattle.of_oxm.specs.{declared.match_field.MatchField.MatchField, Relations.matches_map}
use Rattle.of_machine.specs.TheWorld.{TheWorld}
use Rattle.of_symbolic.specs.Parts.{received_fields}
use Rattle.of_symbolic_run.specs.{declared.dividing.Case.Case, declared.frame_set.FrameSet.FrameSet, Cases.AreCases, FrameSets.FindsFrame, FrameSets.InFrames}
use Rattle.of_symbolic_run.specs.{NextStates.AreNextStates, NextStates.IsFirstState, States.IsAt, Received.AreReceived, Received.IsReceivedAt, Sides.IsUnknownLookup}
use Rattle.of_symbolic_run.specs.declared.finding.FrameFound.TheVariants as found
use Rattle.of_paths.specs.{declared.path.UndecidedFrames.UndecidedFrames, declared.path.WhyUndecided.WhyUndecided}
use Rattle.of_paths.specs.declared.path.WhyUndecided.TheVariants as why

-- each frame of the set is one that conditions match, and comes in by a port that receives
pub record AreMatched (w : TheWorld) (within : List MatchField) (frames : FrameSet) : Type 0 where
  pub matched : (frame : List ℕ) (port : ℕ) → InFrames frames frame port → matches_map within (received_fields frame port) ≡ true
  pub received : AreReceived w.ports frames

-- the state is that of the run of each frame
abbrev pub IsStateOfRuns : TheWorld → Case → Type 0
IsStateOfRuns w c = (frame : List ℕ) (port : ℕ) → IsFrame frame → InFrames c.frames frame port → IsAt w frame port c.state

-- ---- steps of all runs together

-- the beginning: one set of the frames that are received and that conditions match, with the first state
pub record IsFirstCase (w : TheWorld) (within : List MatchField) (c : Case) : Type 0 where
  pub runs : IsStateOfRuns w c
  pub begins : IsFirstState c.state
  pub matched : AreMatched w within c.frames
  pub all : (frame : List ℕ) (port : ℕ) → IsReceivedAt w frame port → matches_map within (received_fields frame port) ≡ true → InFrames c.frames frame port

-- ONE STEP: the run of the last set of frames takes one step, which may divide the set: its next states take its place, the first one last. Or the set is
-- done with, since its run is at its end, or since it is not known what its lookup finds
pub data IsCaseStep (w : TheWorld) (old new : List Case) : Type 0 where
  moved : (others : List Case) (c : Case) (cases : List Case) → old ≡ others ++ c ∷ [] → new ≡ others ++ reverse cases → AreCases w c.frames c.state cases → AreNextStates w c.state cases → IsCaseStep w old new
  ended : (c : Case) → old ≡ new ++ c ∷ [] → c.state.tasks.items ≡ [] → IsCaseStep w old new
  unknown : (c : Case) → old ≡ new ++ c ∷ [] → IsUnknownLookup c.frames.inner w c.state → IsCaseStep w old new

-- so many steps lead from one set to these
abbrev pub AreCaseSteps : TheWorld → Case → ℕ → List Case → Type 0
AreCaseSteps w first zero end = end ≡ first ∷ []
AreCaseSteps w first (suc n) end = (before : List Case) × AreCaseSteps w first n before × IsCaseStep w before end

-- after so many steps from the beginning, these sets are left
pub record AreLeftAfter (w : TheWorld) (within : List MatchField) (taken : ℕ) (cases : List Case) : Type 0 where
  pub first : Case
  pub begins : IsFirstCase w within first
  pub steps : AreCaseSteps w first taken cases

-- ---- reasons

-- it is not known what the lookup of the set finds; or all the steps were taken; or its run is at its end, and a search found no frame of it
abbrev pub IsReason : TheWorld → ℕ → ℕ → Case → WhyUndecided → Type 0
IsReason w steps taken c why.UnknownTag = IsUnknownLookup c.frames.inner w c.state
IsReason w steps taken c why.Steps = taken ≡ steps
IsReason w steps taken c why.Search = (c.state.tasks.items ≡ []) × FindsFrame c.frames steps found.Undecided

-- AN UNDECIDED SET is one of those that are left after some of the steps that the runs may take together, and there is a reason
pub record AreUndecided (w : TheWorld) (within : List MatchField) (steps : ℕ) (u : UndecidedFrames) : Type 0 where
  pub matched : AreMatched w within u.frames
  pub taken : ℕ
  pub most : taken ≤ steps
  pub cases : List Case
  pub left : AreLeftAfter w within taken cases
  pub c : Case
  pub there : Contains cases c
  pub own : c.frames ≡ u.frames
  pub reason : IsReason w steps taken c u.why
