-- THE REPORT OF `paths` IN WORDS: a block for each class, a line for each reason why frames are undecided, and a summary.
use Rattle.std.specs.Prelude.{ℕ, ◌==◌, nat_lt, Bool, true, false, List, [], ◌∷◌, ◌++◌, length, filter, take, codes, decimal, Option, Some, None, if◌then◌else◌}
use Rattle.std.specs.List.{flat_map}
use Rattle.of_text.specs.Lines.{ended}
use Rattle.of_values.specs.Filled.{filled}
use Rattle.of_json.specs.{Parts.listed, LeavingWords.frame_lines, UndecidedWords.undecided_count, UndecidedWords.undecided_sets, ChangesInWords.changed_side_words}
use Rattle.of_machine.specs.{declared.data.Step.Step, declared.data.Step.TheVariants.Entry}
use Rattle.of_datapath.specs.{Datapath.Forwarding, DryRun.steps_in}
use Rattle.of_trace.specs.{Text.step_line, Words.heading}
use Rattle.of_paths.specs.{declared.path.Path.Path, declared.path.PathClass.PathClass, declared.path.Paths.Paths, declared.path.UndecidedFrames.UndecidedFrames}
use Rattle.of_paths.specs.declared.path.WhyUndecided.{WhyUndecided}
use Rattle.of_paths.specs.declared.path.WhyUndecided.TheVariants.{Search, Steps, UnknownTag}
use Rattle.of_paths.specs.declared.destination.Destination.{Destination}
use Rattle.of_paths_report.specs.declared.hits.TheConstants as hits
use Rattle.of_paths_report.specs.declared.undecided.TheConstants as line
use Rattle.of_paths_report.specs.Destinations.{is_class_leading, is_class_shown}

-- ---- the entries that a path hits: ` 0:3 1:4`

abbrev pub hit_words : Step → List ℕ
hit_words (Entry table number) = filled hits.HIT (decimal table ∷ decimal number ∷ [])
hit_words other = []

abbrev pub path_hits : Path → List ℕ
path_hits p = flat_map hit_words p.steps.items

-- ---- the paths of a class behind the first one: how many, and the entries of at most 8 of them

unfoldable pub further_paths : List Path → List ℕ
further_paths paths =
    filled (if length paths == 1 then hits.FURTHER_SET else hits.FURTHER_SETS) (decimal (length paths) ∷ []) ++ listed path_hits (take hits.NAMED paths)
    ++ (if nat_lt hits.NAMED (length paths) then hits.LEFT_OUT else hits.END)

abbrev pub further_words : List Path → List ℕ
further_words [] = []
further_words (p ∷ []) = []
further_words (p ∷ q ∷ others) = further_paths (q ∷ others)

-- ---- a class: its frame, the steps of that as `trace` prints them, and what leaves and changed

unfoldable pub indented_line : Step → List ℕ
indented_line s = codes "    " ++ step_line s ++ 10 ∷ []

unfoldable pub class_words : Forwarding → PathClass → List ℕ
class_words f c =
    codes "path: " ++ ended (heading f c.in_port c.frame.items) ++ frame_lines c.in_port c.frame.items ++ flat_map indented_line (steps_in c.in_port c.frame.items f)
    ++ changed_side_words (codes "    ") c.frame.items c.items.items ++ further_words c.paths.items

-- if its paths lead to the place that is asked for
abbrev pub shown_words : Forwarding → Option Destination → PathClass → List ℕ
shown_words f to c = if is_class_shown to c then class_words f c else []

-- ---- why frames are undecided: for each reason how many sets of frames

abbrev pub is_why_undecided : WhyUndecided → WhyUndecided → Bool
is_why_undecided UnknownTag UnknownTag = true
is_why_undecided Steps Steps = true
is_why_undecided Search Search = true
is_why_undecided other why = false

abbrev pub count_frames : WhyUndecided → List UndecidedFrames → ℕ
count_frames why undecided = length (filter (λ u. is_why_undecided why u.why) undecided)

abbrev pub why_said : WhyUndecided → List ℕ
why_said UnknownTag = line.UNKNOWN_TAG
why_said Steps = line.STEPS
why_said Search = line.SEARCH

unfoldable pub why_line : List UndecidedFrames → WhyUndecided → List ℕ
why_line undecided why = if count_frames why undecided == 0 then [] else undecided_sets (count_frames why undecided) ++ why_said why

abbrev pub undecided_frames_words : List UndecidedFrames → List ℕ
undecided_frames_words undecided = why_line undecided UnknownTag ++ why_line undecided Steps ++ why_line undecided Search

-- ---- the summary: `7 paths, 1 undecided`, or `2 of 7 paths` if those are asked for that lead to a place

abbrev pub shown_count : Option Destination → List PathClass → List ℕ
shown_count None classes = []
shown_count (Some to) classes = filled line.OF (decimal (length (filter (is_class_leading to) classes)) ∷ [])

abbrev pub path_count : ℕ → List ℕ
path_count n = filled (if n == 1 then line.PATH else line.PATHS) (decimal n ∷ [])

unfoldable pub path_summary : Option Destination → Paths → List ℕ
path_summary to found = shown_count to found.classes.items ++ path_count (length found.classes.items) ++ undecided_count (length found.undecided.items) ++ 10 ∷ []

-- THE REPORT
unfoldable pub paths_words : Forwarding → Option Destination → Paths → List ℕ
paths_words f to found = flat_map (shown_words f to) found.classes.items ++ undecided_frames_words found.undecided.items ++ path_summary to found
