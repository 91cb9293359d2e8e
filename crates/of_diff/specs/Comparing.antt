-- WHAT IS FOUND ABOUT TWO SWITCHES: which frames they treat otherwise, and that they treat all others alike, unless it is not known (OpenFlow 1.3.5, 5.1).
use Rattle.std.specs.{Prelude.ℕ, Prelude.◌⊎◌, Prelude.List, List.Contains}
use Rattle.of_machine.specs.TheWorld.{TheWorld}
use Rattle.of_symbolic_run.specs.Received.{IsReceivedAt}
use Rattle.of_diff.specs.{Differences.InDifferences, Differences.InUndecided, Differences.IsDifference, Differences.IsTreatedAlike, Reasons.IsUndecidedSet, declared.difference.Difference.Difference}
use Rattle.of_diff.specs.{declared.difference.Differences.Differences, declared.difference.Undecided.Undecided}
use Rattle.of_alike.specs.{SamePorts.SamePorts, declared.alike.Compared.Compared}

-- the ports are the same; each difference is one; each undecided set is one for a reason, where the runs of all frames take so many steps together and each
-- search for a frame as many; and each frame that is received is treated alike, unless it is one of those of a difference or it is not known
pub record AreDifferences (c : Compared) (w v : TheWorld) (steps : ℕ) (ds : Differences) : Type 0 where
  pub ports : SamePorts w.ports v.ports
  pub real : (d : Difference) → Contains ds.found.items d → IsDifference c w v d
  pub undecided : (u : Undecided) → Contains ds.undecided.items u → IsUndecidedSet c w v steps u
  pub all : (frame : List ℕ) (port : ℕ) → IsReceivedAt w frame port → InDifferences ds.found.items frame port ⊎ (InUndecided ds.undecided.items frame port ⊎ IsTreatedAlike c w v frame port)
