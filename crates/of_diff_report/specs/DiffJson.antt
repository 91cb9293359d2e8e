-- THE REPORT OF `diff` AS JSON (RFC 8259): one object in one line.
use Rattle.std.specs.Prelude.{ℕ, ◌==◌, Bool, true, false, List, [], ◌∷◌, ◌++◌, length, codes, decimal, Option, Some, None, if◌then◌else◌}
use Rattle.std.specs.Borrow.{Bor}
use Rattle.hex.specs.Hex.{encode_lower}
use Rattle.of_values.specs.Filled.{filled}
use Rattle.of_json.specs.Parts.{document_head, listed, number_member, quoted, text_member, truth}
use Rattle.of_json.specs.{Strings.array_member, Strings.string, Strings.string_member, LeavingJson.items_member, ChangesInJson.changes_member}
use Rattle.of_alike.specs.{declared.alike.Where.Where, declared.alike.Where.TheVariants.Controller, declared.alike.Where.TheVariants.Port as ByPort}
use Rattle.of_diff.specs.{declared.difference.Difference.Difference, declared.difference.Differences.Differences, declared.difference.Why.Why}
use Rattle.of_diff.specs.declared.difference.Why.TheVariants.{OtherActions, Search, Steps, UnknownTag}
use Rattle.of_diff_report.specs.{declared.hits.FileFlows.FileFlows, declared.hits.SideHits.SideHits, declared.region.DescribedSet.DescribedSet, declared.reserved.Limits.Limits}
use Rattle.of_diff_report.specs.{declared.telling.Told.Told, declared.telling.ToldUndecided.ToldUndecided, EntryHits.changed_member, EntryHits.hit_entries_member, DiffWords.are_same_with}
use Rattle.of_diff_report.specs.RegionWords.{count_of_entries, region_words}
use Rattle.of_diff_report.specs.declared.json.TheConstants as line

-- ---- a difference

abbrev pub begin_at : Where → List ℕ
begin_at (ByPort port) = filled line.AT_PORT (decimal port ∷ [])
begin_at Controller = line.AT_CONTROLLER

-- the entries that the frame hits at each switch, and which of them changed
unfoldable pub side_hits_members : List ℕ → List ℕ → FileFlows → SideHits → List ℕ
side_hits_members entries changed flows hits = hit_entries_member entries flows hits.all.items ++ changed_member changed hits.all.items

unfoldable pub both_hits_members : FileFlows → FileFlows → Told → List ℕ
both_hits_members a b t = side_hits_members (codes "first_entries") (codes "first_changed") a t.first ++ side_hits_members (codes "second_entries") (codes "second_changed") b t.second

-- the region of the first set of frames, if there are words for it: the range of the TTL, and how many matches of entries match none of its frames
unfoldable pub region_members : Option DescribedSet → List ℕ
region_members None = []
region_members (Some d) =
    string_member (codes "region") d.words.items
    ++ filled line.OF_REGION (decimal d.frames.now.ttl_from ∷ decimal d.frames.now.ttl_to ∷ decimal (count_of_entries d.frames.now.part.lacks.items) ∷ [])

-- further differences of the same changed entries
unfoldable pub also_object : Bor Difference → List ℕ
also_object d = begin_at d.now.at ++ filled line.ALSO_SETS (decimal (length d.now.sets.items) ∷ [])

unfoldable pub also_member : List (Bor Difference) → List ℕ
also_member also = array_member (codes "also") (listed also_object also)

unfoldable pub difference_members : Difference → List ℕ
difference_members d =
    begin_at d.at ++ number_member (codes "in_port") d.in_port ++ text_member (codes "frame") (encode_lower d.frame.items)
    ++ items_member (codes "first") d.first.items ++ items_member (codes "second") d.second.items
    ++ changes_member (codes "first_changes") d.frame.items d.first.items ++ changes_member (codes "second_changes") d.frame.items d.second.items
    ++ number_member (codes "sets") (length d.sets.items)

unfoldable pub difference_object : FileFlows → FileFlows → Told → List ℕ
difference_object a b t =
    difference_members t.difference.now ++ both_hits_members a b t ++ region_members t.region ++ also_member t.also.items ++ 125 ∷ []

unfoldable pub differences_member : FileFlows → FileFlows → List Told → List ℕ
differences_member a b told = array_member (codes "differences") (listed (difference_object a b) told)

-- ---- why frames are undecided, and their regions

abbrev pub why_name : Why → List ℕ
why_name UnknownTag = codes "unknown tag"
why_name Steps = codes "steps"
why_name Search = codes "search"
why_name OtherActions = codes "other actions"

unfoldable pub undecided_string : ToldUndecided → List ℕ
undecided_string u = quoted (why_name u.undecided.now.why)

unfoldable pub undecided_member : List ToldUndecided → List ℕ
undecided_member undecided = array_member (codes "undecided") (listed undecided_string undecided)

-- as it is printed in words, or null
abbrev pub region_or_null : Option DescribedSet → List ℕ
region_or_null None = codes "null"
region_or_null (Some d) = string (region_words d)

abbrev pub region_string : ToldUndecided → List ℕ
region_string u = region_or_null u.region

unfoldable pub regions_member : List ToldUndecided → List ℕ
regions_member undecided = array_member (codes "undecided_regions") (listed region_string undecided)

-- ---- THE DOCUMENT: whether all frames are treated alike, which is null if that is not known, a port is missing or the miss_send_len differ; whether the
-- ports differ, the ports that are named and missing, the miss_send_len if they differ, each difference, why frames are undecided, and their regions

abbrev pub same_in_json : List ℕ → Option Limits → Differences → List ℕ
same_in_json missing limits ds = if are_same_with missing limits ds then codes "true" else if length ds.found.items == 0 then codes "null" else codes "false"

abbrev pub limits_member : Option Limits → List ℕ
limits_member None = line.NO_LIMITS
limits_member (Some l) = filled line.BOTH_LIMITS (decimal l.first ∷ decimal l.second ∷ [])

unfoldable pub diff_head : List ℕ → Bool → List ℕ → Option Limits → List ℕ
diff_head same ports missing limits =
    123 ∷ document_head (codes "diff") ++ filled line.SAME (same ∷ []) ++ truth ports ++ array_member (codes "missing_ports") (listed decimal missing) ++ limits_member limits

unfoldable pub diff_json : FileFlows → FileFlows → List ℕ → Option Limits → List Told → List ToldUndecided → Differences → List ℕ
diff_json a b missing limits told undecided ds =
    diff_head (same_in_json missing limits ds) false missing limits ++ differences_member a b told ++ undecided_member undecided ++ regions_member undecided ++ 125 ∷ 10 ∷ []

-- of switches whose ports differ
unfoldable pub other_ports_json : List ℕ → List ℕ
other_ports_json missing = diff_head (codes "false") true missing None ++ line.NOTHING ++ 125 ∷ 10 ∷ []
