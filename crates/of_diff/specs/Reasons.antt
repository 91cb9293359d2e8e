-- WHY FRAMES ARE UNDECIDED: the runs of all frames on both switches take steps together, and a set of frames may be left (OpenFlow 1.3.5, 5.1).
use Rattle.std.specs.Prelude.{◌≡◌, ◌≢◌, ◌≤◌, ◌⊎◌, ◌++◌, ℕ, zero, suc, List, [], ◌∷◌}
use Rattle.std.specs.List.{Contains}
use Rattle.of_machine.specs.TheWorld.{TheWorld}
use Rattle.of_symbolic_run.specs.{declared.frame_set.FrameSet.FrameSet, FrameSets.FindsFrame, FrameSets.InFrames, NextStates.IsFirstState, Received.IsReceivedAt, Sides.IsUnknownLookup}
use Rattle.of_symbolic_run.specs.declared.finding.FrameFound.TheVariants as found
use Rattle.of_alike.specs.{Agreeing.AgreeFrom, Agreeing.GoOnAlike, declared.alike.Compared.Compared}
use Rattle.of_diff.specs.{Differences.IsDifference, Differences.IsTreatedAlike, NextPairs.AreNextPairs, Pairs.ArePairs, Pairs.AreStatesOfRuns, declared.difference.Difference.Difference}
use Rattle.of_diff.specs.{declared.difference.Undecided.Undecided, declared.difference.Why.Why, declared.pair.Pair.Pair}
use Rattle.of_diff.specs.declared.difference.Why.TheVariants as why

-- ---- reasons

-- both runs are at their end, or go on alike
abbrev pub AreSettled : TheWorld → TheWorld → Pair → Type 0
AreSettled w v p = ((p.first.tasks.items ≡ []) × (p.second.tasks.items ≡ [])) ⊎ ((n : ℕ) × AgreeFrom n w v × GoOnAlike n p.first p.second)

-- both switches treat some frame of the set alike, which both receive
pub record SomeIsAlike (c : Compared) (w v : TheWorld) (s : FrameSet) : Type 0 where
  pub frame : List ℕ
  pub port : ℕ
  pub within : InFrames s frame port
  pub first : IsReceivedAt w frame port
  pub second : IsReceivedAt v frame port
  pub alike : IsTreatedAlike c w v frame port

-- what a search among the frames of a set gave: none, or one that is treated alike
abbrev pub IsTriedReason : Compared → TheWorld → TheWorld → ℕ → FrameSet → Why → Type 0
IsTriedReason c w v steps s why.UnknownTag = ⊥
IsTriedReason c w v steps s why.Steps = ⊥
IsTriedReason c w v steps s why.Search = FindsFrame s steps found.Undecided
IsTriedReason c w v steps s why.OtherActions = SomeIsAlike c w v s

-- it is not known what a lookup of one of the two finds; or all the steps were taken; or both runs are settled, and that is all that a search gave; if some
-- frame is treated alike, the runs did not emit the same
abbrev pub IsReasonOfPair : Compared → TheWorld → TheWorld → ℕ → ℕ → Pair → Why → Type 0
IsReasonOfPair c w v steps taken p why.UnknownTag = IsUnknownLookup p.frames.inner w p.first ⊎ IsUnknownLookup p.frames.inner v p.second
IsReasonOfPair c w v steps taken p why.Steps = taken ≡ steps
IsReasonOfPair c w v steps taken p why.Search = AreSettled w v p × IsTriedReason c w v steps p.frames why.Search
IsReasonOfPair c w v steps taken p why.OtherActions = AreSettled w v p × IsTriedReason c w v steps p.frames why.OtherActions × (p.first.emitted.items ≢ p.second.emitted.items)

-- ---- steps of all runs together

-- the beginning: one set of the frames that are received, with the first state of both runs
pub record IsFirstPair (w v : TheWorld) (p : Pair) : Type 0 where
  pub runs : AreStatesOfRuns w v p
  pub first : IsFirstState p.first
  pub second : IsFirstState p.second
  pub all : (frame : List ℕ) (port : ℕ) → IsReceivedAt w frame port → InFrames p.frames frame port

-- ONE STEP: a run of the last pair takes a step, or both do, which may divide its frames: the next pairs take its place, and frames that are treated alike
-- may be left out. Or the pair is done with: all its frames are treated alike, or one of them shows a difference, or they are undecided for a reason
pub data IsPairStep (c : Compared) (w v : TheWorld) (steps : ℕ) (old new : List Pair) : Type 0 where
  moved : (others : List Pair) (p : Pair) (pairs : List Pair) → old ≡ others ++ p ∷ [] → new ≡ others ++ pairs → ArePairs c w v p pairs → AreNextPairs w v p pairs → IsPairStep c w v steps old new
  alike : (p : Pair) → old ≡ new ++ p ∷ [] → ((frame : List ℕ) (port : ℕ) → IsReceivedAt w frame port → InFrames p.frames frame port → IsTreatedAlike c w v frame port) → IsPairStep c w v steps old new
  differs : (p : Pair) (d : Difference) → old ≡ new ++ p ∷ [] → IsDifference c w v d → d.sets.items ≡ p.frames ∷ [] → IsPairStep c w v steps old new
  undecided : (p : Pair) (u : Undecided) → old ≡ new ++ p ∷ [] → u.frames ≡ p.frames → ((taken : ℕ) → IsReasonOfPair c w v steps taken p u.why) → IsPairStep c w v steps old new

-- so many steps lead from one pair to these
abbrev pub ArePairSteps : Compared → TheWorld → TheWorld → ℕ → Pair → ℕ → List Pair → Type 0
ArePairSteps c w v steps first zero end = end ≡ first ∷ []
ArePairSteps c w v steps first (suc n) end = (before : List Pair) × ArePairSteps c w v steps first n before × IsPairStep c w v steps before end

-- after so many steps from the beginning, these pairs are left
pub record ArePairsAfter (c : Compared) (w v : TheWorld) (steps taken : ℕ) (pairs : List Pair) : Type 0 where
  pub first : Pair
  pub begins : IsFirstPair w v first
  pub steps_are : ArePairSteps c w v steps first taken pairs

-- AN UNDECIDED SET is that of a pair that is left after some of the steps that the runs may take together, and there is a reason
pub record IsUndecidedSet (c : Compared) (w v : TheWorld) (steps : ℕ) (u : Undecided) : Type 0 where
  pub taken : ℕ
  pub most : taken ≤ steps
  pub pairs : List Pair
  pub left : ArePairsAfter c w v steps taken pairs
  pub p : Pair
  pub there : Contains pairs p
  pub own : p.frames ≡ u.frames
  pub reason : IsReasonOfPair c w v steps taken p u.why
