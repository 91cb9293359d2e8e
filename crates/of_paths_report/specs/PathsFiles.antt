-- WHAT `paths` WRITES ABOUT A SWITCH, and whether it is known of all frames.
use Rattle.std.specs.Prelude.{◌≡◌, ◌≢◌, ℕ, ◌==◌, List, length, Option, Result, Ok, Err, if◌then◌else◌}
use Rattle.of_datapath.specs.Datapath.{Forwarding, world_of}
use Rattle.of_replay.specs.{declared.event_file.Ended.Ended, declared.event_file.Ended.TheVariants.Done}
use Rattle.of_paths.specs.{declared.path.Paths.Paths, declared.destination.Destination.Destination}
use Rattle.of_paths_report.specs.{declared.asked.Asked.Asked, declared.writing.PathsForm.PathsForm, declared.writing.PathsForm.TheVariants.Json, declared.writing.PathsForm.TheVariants.Words}
use Rattle.of_paths_report.specs.{declared.writing.PathsVerdict.PathsVerdict, declared.writing.PathsVerdict.TheVariants.Complete, declared.writing.PathsVerdict.TheVariants.Undecided}
use Rattle.of_paths_report.specs.{Asked.AreAskedPaths, PathsWords.paths_words, PathsJson.paths_json}

-- in words or as JSON
abbrev pub paths_text : PathsForm → Forwarding → Option Destination → Paths → List ℕ
paths_text Words f to found = paths_words f to found
paths_text Json f to found = paths_json f to found

-- it is known of all frames if no set of frames is undecided
abbrev pub paths_verdict : Paths → PathsVerdict
paths_verdict found = if length found.undecided.items == 0 then Complete else Undecided

-- the verdict, if all was written
abbrev pub IsPathsResult : Result PathsVerdict Ended → PathsVerdict → Type 0
IsPathsResult (Ok verdict) is = verdict ≡ is
IsPathsResult (Err ended) is = ended ≢ Done

-- THE TEXT of the paths of a switch that are asked for. The runs of all frames take at most so many steps together, and each search for a frame as many.
abbrev pub IsPathsReport : Result PathsVerdict Ended → PathsForm → Asked → Forwarding → List ℕ → Type 0
IsPathsReport result form asked f text =
    (found : Paths) × AreAskedPaths (world_of f) asked found × (text ≡ paths_text form f asked.to found) × IsPathsResult result (paths_verdict found)
