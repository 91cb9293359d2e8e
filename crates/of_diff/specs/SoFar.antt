-- For contracts inside this crate: what comes of a pair, and what is known while pairs are left.
use Rattle.std.specs.Prelude.{◌≡◌, ℕ, ◌⊎◌, List, [], ◌∷◌}
use Rattle.std.specs.List.{Contains}
use Rattle.of_machine.specs.TheWorld.{TheWorld}
use Rattle.of_symbolic_run.specs.{FrameSets.InFrames, Received.IsReceivedAt}
use Rattle.of_diff.specs.{Differences.InDifferences, Differences.InUndecided, Differences.IsDifference, Differences.IsTreatedAlike, NextPairs.AreNextPairs}
use Rattle.of_diff.specs.{Pairs.ArePairs, Pairs.AreStatesOfRuns, Pairs.InPairs, Reasons.IsReasonOfPair, Reasons.IsUndecidedSet, declared.difference.Difference.Difference}
use Rattle.of_diff.specs.{declared.difference.Differences.Differences, declared.difference.Undecided.Undecided, declared.pair.Pair.Pair, declared.pair.Next.Next}
use Rattle.of_alike.specs.declared.alike.Compared.{Compared}
use Rattle.of_diff.specs.declared.pair.Next.TheVariants as next

-- what comes of a pair
abbrev pub NextIs : Compared → TheWorld → TheWorld → ℕ → Pair → Next → Type 0
NextIs c w v steps old (next.Pairs pairs) = ArePairs c w v old pairs.items × AreNextPairs w v old pairs.items
NextIs c w v steps old next.Alike = AreStatesOfRuns w v old → (frame : List ℕ) (port : ℕ) → IsReceivedAt w frame port → InFrames old.frames frame port → IsTreatedAlike c w v frame port
NextIs c w v steps old (next.Differs d) = IsDifference c w v d × (d.sets.items ≡ old.frames ∷ [])
NextIs c w v steps old (next.Undecided u) = (u.frames ≡ old.frames) × ((taken : ℕ) → IsReasonOfPair c w v steps taken old u.why)

-- all that is known while pairs are left
pub record IsSoFar (c : Compared) (w v : TheWorld) (steps : ℕ) (pairs : List Pair) (ds : Differences) : Type 0 where
  pub hold : (p : Pair) → Contains pairs p → AreStatesOfRuns w v p
  pub real : (d : Difference) → Contains ds.found.items d → IsDifference c w v d
  pub undecided : (u : Undecided) → Contains ds.undecided.items u → IsUndecidedSet c w v steps u
  pub all : (frame : List ℕ) (port : ℕ) → IsReceivedAt w frame port →
      InPairs pairs frame port ⊎ (InDifferences ds.found.items frame port ⊎ (InUndecided ds.undecided.items frame port ⊎ IsTreatedAlike c w v frame port))
