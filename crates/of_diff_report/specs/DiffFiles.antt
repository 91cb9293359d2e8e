-- WHAT `diff` WRITES ABOUT TWO SWITCHES, and whether they treat all frames alike.
use Rattle.std.specs.Prelude.{◌≡◌, ◌≢◌, ℕ, ◌==◌, List, length, Option, Some, None, Result, Ok, Err, if◌then◌else◌}
use Rattle.of_datapath.specs.Datapath.{Forwarding, world_of}
use Rattle.of_replay.specs.{declared.event_file.Ended.Ended, declared.event_file.Ended.TheVariants.Done}
use Rattle.of_symbolic_run.specs.Received.{IsReceivedAt}
use Rattle.of_diff.specs.{Comparing.AreDifferences, Differences.IsDifference, Differences.IsTreatedAlike, SameSwitches.AreSameSwitches, SameSwitches.IsNothing}
use Rattle.of_diff.specs.{declared.difference.Difference.Difference, declared.difference.Differences.Differences}
use Rattle.of_alike.specs.{SamePorts.SamePorts, declared.alike.Compared.Compared}
use Rattle.of_diff_report.specs.{declared.hits.FileFlows.FileFlows, declared.reserved.Limits.Limits, declared.writing.DiffForm.DiffForm}
use Rattle.of_diff_report.specs.{declared.writing.DiffForm.TheVariants.Json, declared.writing.DiffForm.TheVariants.Words, declared.writing.DiffVerdict.DiffVerdict}
use Rattle.of_diff_report.specs.declared.writing.DiffVerdict.TheVariants.{Differs, OtherPorts, Same, Undecided}
use Rattle.of_diff_report.specs.{DiffWords.are_same_with, DiffWords.diff_words, DiffWords.other_ports_words, declared.telling.Told.Told, declared.telling.ToldUndecided.ToldUndecided}
use Rattle.of_diff_report.specs.{DiffJson.diff_json, DiffJson.other_ports_json, Telling.AreTold, Telling.AreToldUndecided}

-- none if their ports differ, else the differences, and for all other frames that they are treated alike or undecided
abbrev pub AreAllBetween : Compared → ℕ → Forwarding → Forwarding → Option Differences → Type 0
AreAllBetween c steps f g None = SamePorts f.ports g.ports → ⊥
AreAllBetween c steps f g (Some ds) = AreDifferences c (world_of f) (world_of g) steps ds

-- what is found about two switches; if they say the same, no frame is treated otherwise, and none is undecided
pub record AreFoundBetween (c : Compared) (steps : ℕ) (f g : Forwarding) (found : Option Differences) : Type 0 where
  pub all : AreAllBetween c steps f g found
  pub same : AreSameSwitches f g → IsNothing found

-- in words or as JSON, with the flow entries of both switches, the ports that are named and missing, and the miss_send_len if they differ
abbrev pub diff_text : DiffForm → FileFlows → FileFlows → List ℕ → Option Limits → Forwarding → List Told → List ToldUndecided → Differences → List ℕ
diff_text Words a b missing limits f told undecided ds = diff_words a b missing limits f told undecided ds
diff_text Json a b missing limits f told undecided ds = diff_json a b missing limits told undecided ds

abbrev pub other_ports_text : DiffForm → List ℕ → List ℕ
other_ports_text Words missing = other_ports_words missing
other_ports_text Json missing = other_ports_json missing

-- that the ports differ, or the differences and the undecided frames as they are told
abbrev pub IsTextFound : DiffForm → FileFlows → FileFlows → List ℕ → Option Limits → Forwarding → Forwarding → Option Differences → List ℕ → Type 0
IsTextFound form a b missing limits f g None text = text ≡ other_ports_text form missing
IsTextFound form a b missing limits f g (Some ds) text =
    (told : List Told) × (undecided : List ToldUndecided) × AreTold f g ds.found.items told × AreToldUndecided ds.undecided.items undecided
    × (text ≡ diff_text form a b missing limits f told undecided ds)

abbrev pub verdict_on : List ℕ → Option Limits → Differences → DiffVerdict
verdict_on missing limits ds = if are_same_with missing limits ds then Same else if length ds.found.items == 0 then Undecided else Differs

abbrev pub diff_verdict : List ℕ → Option Limits → Option Differences → DiffVerdict
diff_verdict missing limits None = OtherPorts
diff_verdict missing limits (Some ds) = verdict_on missing limits ds

-- the verdict, if all was written
abbrev pub IsVerdictResult : Result DiffVerdict Ended → DiffVerdict → Type 0
IsVerdictResult (Ok verdict) is = verdict ≡ is
IsVerdictResult (Err ended) is = ended ≢ Done

-- THE TEXT of what is found about two switches. The runs of all frames take at most so many steps together, and each search for a frame as many.
abbrev pub IsDiffReport : Result DiffVerdict Ended → DiffForm → FileFlows → FileFlows → List ℕ → Option Limits → Compared → ℕ → Forwarding → Forwarding → List ℕ → Type 0
IsDiffReport result form a b missing limits c steps f g text =
    (found : Option Differences) × AreFoundBetween c steps f g found × IsTextFound form a b missing limits f g found text × IsVerdictResult result (diff_verdict missing limits found)

-- WHAT THE VERDICT MEANS: each frame that is received is treated alike; or some frame is not, which both ran; or the ports differ
abbrev pub IsVerdict : Compared → Forwarding → Forwarding → DiffVerdict → Type 0
IsVerdict c f g Same = (frame : List ℕ) (port : ℕ) → IsReceivedAt (world_of f) frame port → IsTreatedAlike c (world_of f) (world_of g) frame port
IsVerdict c f g Differs = (d : Difference) × IsDifference c (world_of f) (world_of g) d
IsVerdict c f g OtherPorts = SamePorts f.ports g.ports → ⊥
IsVerdict c f g Undecided = Unit {0}
