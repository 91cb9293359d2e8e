-- THE REPORT OF `paths` AS JSON (RFC 8259): one object in one line.
use Rattle.std.specs.Prelude.{ℕ, Bool, true, false, List, [], ◌∷◌, ◌++◌, length, filter, codes, decimal, Option}
use Rattle.std.specs.List.{flat_map}
use Rattle.hex.specs.Hex.{encode_lower}
use Rattle.of_machine.specs.declared.data.Step.{Step}
use Rattle.of_datapath.specs.{Datapath.Forwarding, DryRun.steps_in}
use Rattle.of_trace.specs.Text.{step_line}
use Rattle.of_values.specs.Filled.{filled}
use Rattle.of_json.specs.Parts.{document_head, key, listed, number_member, quoted, text_member}
use Rattle.of_json.specs.{declared.hits.Hit.Hit, Hits.hits_at, Strings.array_member, LeavingJson.items_member, ChangesInJson.changes_member}
use Rattle.of_paths.specs.{declared.path.Path.Path, declared.path.PathClass.PathClass, declared.path.Paths.Paths, declared.path.UndecidedFrames.UndecidedFrames}
use Rattle.of_paths.specs.declared.path.WhyUndecided.{WhyUndecided}
use Rattle.of_paths.specs.declared.path.WhyUndecided.TheVariants.{Search, Steps, UnknownTag}
use Rattle.of_paths.specs.declared.destination.Destination.{Destination}
use Rattle.of_paths_report.specs.{declared.json.TheConstants.CLASS, declared.json_hits.TheConstants.HIT, Destinations.is_class_shown}

-- ---- the entries that a path hits, in turn: an object for each, with its table and its number by age

abbrev pub hits_of_path : Path → List Hit
hits_of_path p = flat_map hits_at p.steps.items

abbrev pub hit_object : Hit → List ℕ
hit_object hit = filled HIT (decimal hit.table ∷ decimal hit.number ∷ [])

unfoldable pub hits_array : Path → List ℕ
hits_array p = 91 ∷ listed hit_object (hits_of_path p) ++ 93 ∷ []

-- an array for each path of a class
unfoldable pub hits_member : List Path → List ℕ
hits_member paths = array_member (codes "hits") (listed hits_array paths)

-- ---- a class: its frame, the steps of that, what leaves and changed, and the entries that each of its paths hits

-- a string: the line of a step as `trace` prints it
unfoldable pub step_string : Step → List ℕ
step_string s = quoted (step_line s)

unfoldable pub steps_member : List Step → List ℕ
steps_member steps = 44 ∷ key (codes "steps") ++ 91 ∷ listed step_string steps ++ 93 ∷ []

unfoldable pub class_members : Forwarding → PathClass → List ℕ
class_members f c =
    text_member (codes "frame") (encode_lower c.frame.items) ++ steps_member (steps_in c.in_port c.frame.items f)
    ++ items_member (codes "items") c.items.items ++ changes_member (codes "changes") c.frame.items c.items.items ++ hits_member c.paths.items

unfoldable pub class_object : Forwarding → PathClass → List ℕ
class_object f c = filled CLASS (decimal c.in_port ∷ []) ++ class_members f c ++ 125 ∷ []

-- those whose paths lead to the place that is asked for
abbrev pub shown_classes : Option Destination → List PathClass → List PathClass
shown_classes to classes = filter (is_class_shown to) classes

-- what follows in an array, behind an item or not (for contracts inside this crate)
abbrev pub listed_behind : {A : Type 0} → Bool → (A → List ℕ) → List A → List ℕ
listed_behind true text xs = flat_map (λ y. 44 ∷ text y) xs
listed_behind false text xs = listed text xs

unfoldable pub classes_member : Forwarding → Option Destination → List PathClass → List ℕ
classes_member f to classes = 44 ∷ key (codes "paths") ++ 91 ∷ listed (class_object f) (shown_classes to classes) ++ 93 ∷ []

-- ---- why frames are undecided: a string for each set of frames

abbrev pub why_in_json : WhyUndecided → List ℕ
why_in_json UnknownTag = codes "unknown tag"
why_in_json Steps = codes "steps"
why_in_json Search = codes "search"

abbrev pub undecided_frames_string : UndecidedFrames → List ℕ
undecided_frames_string u = quoted (why_in_json u.why)

unfoldable pub undecided_frames_member : List UndecidedFrames → List ℕ
undecided_frames_member undecided = array_member (codes "undecided") (listed undecided_frames_string undecided)

-- ---- THE DOCUMENT: the classes that are asked for, how many there are in all, and why frames are undecided

unfoldable pub paths_json : Forwarding → Option Destination → Paths → List ℕ
paths_json f to found =
    123 ∷ document_head (codes "paths") ++ classes_member f to found.classes.items ++ number_member (codes "classes") (length found.classes.items)
    ++ undecided_frames_member found.undecided.items ++ 125 ∷ 10 ∷ []
