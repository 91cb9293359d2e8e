-- THE REPORT OF `diff` IN WORDS: a line for each port that is named and missing, a block for the differences of the same changed entries, a line for each reason why frames are
-- undecided with the regions of some of them, and a summary. Differences of frames whose TTL expires are counted in one line, unless all are of such frames.
use Rattle.std.specs.Prelude.{ℕ, ◌-◌, ◌==◌, ◌||◌, ◌&&◌, nat_lt, Bool, true, false, not, List, [], ◌∷◌, ◌++◌, length, filter, codes, decimal, Option, Some, None, if◌then◌else◌}
use Rattle.std.specs.{Borrow.Bor, List.flat_map, List.list_all, List.list_any}
use Rattle.hex.specs.Hex.{encode_lower}
use Rattle.of_text.specs.Lines.{ended}
use Rattle.of_values.specs.Filled.{filled}
use Rattle.of_wire.specs.declared.reasons.PacketInReason.{PacketInReason}
use Rattle.of_wire.specs.declared.reasons.PacketInReason.TheVariants as reasons
use Rattle.of_machine.specs.{declared.data.Item.Item, declared.data.Item.TheVariants.PacketIn, declared.data.Item.TheVariants.Sent}
use Rattle.of_datapath.specs.Datapath.{Forwarding}
use Rattle.of_trace.specs.Words.{heading}
use Rattle.of_json.specs.{LeavingWords.frame_lines, UndecidedWords.undecided_count, UndecidedWords.undecided_sets, ChangesInWords.changed_side_words}
use Rattle.of_alike.specs.{declared.alike.Compared.Compared, declared.alike.Compared.TheVariants.All, declared.alike.Compared.TheVariants.Frames, declared.alike.Where.Where}
use Rattle.of_alike.specs.declared.alike.Where.TheVariants.{Controller, Port as ByPort}
use Rattle.of_diff.specs.{declared.difference.Difference.Difference, declared.difference.Differences.Differences, declared.difference.Why.Why}
use Rattle.of_diff.specs.declared.difference.Why.TheVariants.{OtherActions, Search, Steps, UnknownTag}
use Rattle.of_diff_report.specs.{declared.hits.FileFlows.FileFlows, declared.reserved.Limits.Limits, declared.hits.MarkedHit.MarkedHit, declared.telling.Told.Told}
use Rattle.of_diff_report.specs.{declared.telling.ToldUndecided.ToldUndecided, EntryHits.hit_lines, RegionWords.region_line}
use Rattle.of_diff_report.specs.declared.words.TheConstants as line

-- ---- ports that groups or flows of the files name, and that the switches do not have

unfoldable pub missing_line : ℕ → List ℕ
missing_line port = filled line.MISSING (decimal port ∷ [])

abbrev pub missing_lines : List ℕ → List ℕ
missing_lines ports = flat_map missing_line ports

-- ---- a miss_send_len that is not that of the other switch (7.3.2): if the packets to the controller are compared

abbrev pub unless_equal : ℕ → ℕ → Option Limits
unless_equal first second = if first == second then None else Some (record { first = first; second = second })

abbrev pub other_limits : Compared → ℕ → ℕ → Option Limits
other_limits Frames first second = None
other_limits All first second = unless_equal first second

abbrev pub limits_line : Option Limits → List ℕ
limits_line None = []
limits_line (Some l) = filled line.LIMITS (decimal l.first ∷ decimal l.second ∷ [])

-- ---- a difference: where something else leaves, the frame as the first switch receives it, and as `trace` takes it, the region of its set, for each
-- switch the entries that it hits and what leaves, how many sets of frames it has, if more than one, and where further differences of the same changed
-- entries are

abbrev pub where_words : Where → List ℕ
where_words (ByPort port) = filled line.BY_PORT (decimal port ∷ [])
where_words Controller = line.TO_CONTROLLER

abbrev pub sets_line : ℕ → List ℕ
sets_line n = if n == 1 then [] else filled line.SETS (decimal n ∷ [])

-- the entries that the frame hits at a switch, what leaves it, and what changed in that
unfoldable pub switch_words : List ℕ → FileFlows → List MarkedHit → List ℕ → List Item → List ℕ
switch_words who flows hits frame items = hit_lines who flows hits ++ changed_side_words who frame items

abbrev pub difference_count : ℕ → List ℕ
difference_count n = filled (if n == 1 then line.DIFFERENCE else line.DIFFERENCES) (decimal n ∷ [])

-- the places of differences, each once
abbrev pub is_same_place : Where → Where → Bool
is_same_place (ByPort port) (ByPort other) = port == other
is_same_place Controller Controller = true
is_same_place place other = false

abbrev pub with_where : List Where → Where → List Where
with_where places at = if list_any (is_same_place at) places then places else places ++ at ∷ []

abbrev pub wheres_after : List Where → List (Bor Difference) → List Where
wheres_after places [] = places
wheres_after places (d ∷ ds) = wheres_after (with_where places d.now.at) ds

abbrev pub further_place : Where → List ℕ
further_place (ByPort port) = filled line.ALSO_BY_PORT (decimal port ∷ [])
further_place Controller = line.ALSO_TO_CONTROLLER

-- `    also: 9 differences, by port 2, to the controller`
unfoldable pub also_line : List (Bor Difference) → List ℕ
also_line also =
    if length also == 0 then [] else line.ALSO ++ difference_count (length also) ++ flat_map further_place (wheres_after [] also) ++ 10 ∷ []

unfoldable pub difference_head : Forwarding → Told → List ℕ
difference_head f t =
    where_words t.difference.now.at ++ ended (heading f t.difference.now.in_port t.difference.now.frame.items)
    ++ frame_lines t.difference.now.in_port t.difference.now.frame.items ++ region_line t.region

unfoldable pub both_switches_words : FileFlows → FileFlows → Told → List ℕ
both_switches_words a b t =
    switch_words (codes "    first: ") a t.first.all.items t.difference.now.frame.items t.difference.now.first.items
    ++ switch_words (codes "    second: ") b t.second.all.items t.difference.now.frame.items t.difference.now.second.items

unfoldable pub sets_and_also_words : Told → List ℕ
sets_and_also_words t = sets_line (length t.difference.now.sets.items) ++ also_line t.also.items

unfoldable pub difference_words : FileFlows → FileFlows → Forwarding → Told → List ℕ
difference_words a b f t = difference_head f t ++ both_switches_words a b t ++ sets_and_also_words t

-- ---- differences of frames whose TTL expires: `of frames whose TTL expires: 2 differences, such as --port 1 HEX`

abbrev pub is_invalid_ttl : PacketInReason → Bool
is_invalid_ttl reasons.InvalidTtl = true
is_invalid_ttl other = false

abbrev pub is_expired_item : Item → Bool
is_expired_item (Sent port frame) = false
is_expired_item (PacketIn p) = is_invalid_ttl p.reason

-- the TTL of its frame expires at one of the switches
unfoldable pub is_of_expired : Difference → Bool
is_of_expired d = list_any is_expired_item d.first.items || list_any is_expired_item d.second.items

-- so it is for all that are told together
abbrev pub is_expired_difference : Bor Difference → Bool
is_expired_difference d = is_of_expired d.now

unfoldable pub are_of_expired : Told → Bool
are_of_expired t = is_of_expired t.difference.now && list_all is_expired_difference t.also.items

-- those of other frames have a block each; if there are no others, these have
abbrev pub told_words : Bool → FileFlows → FileFlows → Forwarding → Told → List ℕ
told_words all a b f t = if all || not (are_of_expired t) then difference_words a b f t else []

unfoldable pub expired_words : ℕ → Difference → List ℕ
expired_words n d = line.EXPIRED ++ difference_count n ++ filled line.SUCH_AS (decimal d.in_port ∷ []) ++ encode_lower d.frame.items ++ 10 ∷ []

-- so many, with the first one
abbrev pub first_expired_words : ℕ → List Told → List ℕ
first_expired_words n [] = []
first_expired_words n (t ∷ ts) = if are_of_expired t then expired_words n t.difference.now else first_expired_words n ts

abbrev pub expired_count : List Told → ℕ
expired_count told = length (filter are_of_expired told)

-- in a line, unless all are of such frames
abbrev pub expired_line : List Told → List ℕ
expired_line told = if nat_lt (expired_count told) (length told) then first_expired_words (expired_count told) told else []

-- ---- why frames are undecided: for each reason how many sets of frames, and the regions of the first of them

abbrev pub is_why : Why → Why → Bool
is_why UnknownTag UnknownTag = true
is_why Steps Steps = true
is_why Search Search = true
is_why OtherActions OtherActions = true
is_why other why = false

abbrev pub count_why : Why → List ToldUndecided → ℕ
count_why why undecided = length (filter (λ u. is_why why u.undecided.now.why) undecided)

abbrev pub undecided_why : Why → List ℕ
undecided_why UnknownTag = line.UNKNOWN_TAG
undecided_why Steps = line.STEPS
undecided_why Search = line.SEARCH
undecided_why OtherActions = line.OTHER_ACTIONS

-- of the first so many for the reason
abbrev pub regions_of : Why → ℕ → List ToldUndecided → List ℕ
regions_of why n [] = []
regions_of why n (u ∷ us) =
    if nat_lt 0 n && is_why why u.undecided.now.why then region_line u.region ++ regions_of why (n - 1) us else regions_of why n us

-- and how many more there are
abbrev pub more_regions : ℕ → List ℕ
more_regions n = if nat_lt line.REGIONS n then filled line.MORE_REGIONS (decimal (n - line.REGIONS) ∷ []) else []

unfoldable pub lines_of_reason : ℕ → List ToldUndecided → Why → List ℕ
lines_of_reason n undecided why =
    if n == 0 then []
    else undecided_sets n ++ undecided_why why ++ regions_of why line.REGIONS undecided ++ more_regions n

abbrev pub reason_lines : List ToldUndecided → Why → List ℕ
reason_lines undecided why = lines_of_reason (count_why why undecided) undecided why

unfoldable pub undecided_words : List ToldUndecided → List ℕ
undecided_words undecided =
    reason_lines undecided UnknownTag ++ reason_lines undecided Steps ++ reason_lines undecided Search ++ reason_lines undecided OtherActions

-- ---- the summary: `1 difference, 3 undecided`

-- nothing differs, and nothing is undecided
abbrev pub are_same : Differences → Bool
are_same ds = if length ds.found.items == 0 then length ds.undecided.items == 0 else false

-- a port is missing, or the miss_send_len differ
abbrev pub is_reserved : List ℕ → Option Limits → Bool
is_reserved missing (Some limits) = true
is_reserved missing None = not (length missing == 0)

abbrev pub are_same_with : List ℕ → Option Limits → Differences → Bool
are_same_with missing limits ds = if is_reserved missing limits then false else are_same ds

-- the switches treat all frames alike, as far as this is compared
abbrev pub same_words : List ℕ → Option Limits → List ℕ
same_words [] None = line.SAME
same_words [] (Some limits) = line.SAME_UNLESS_LIMITS
same_words (port ∷ ports) limits = line.SAME_UNLESS_MISSING

unfoldable pub diff_summary : List ℕ → Option Limits → ℕ → Differences → List ℕ
diff_summary missing limits told ds =
    if are_same ds then same_words missing limits else difference_count told ++ undecided_count (length ds.undecided.items) ++ 10 ∷ []

-- THE REPORT
unfoldable pub diff_words : FileFlows → FileFlows → List ℕ → Option Limits → Forwarding → List Told → List ToldUndecided → Differences → List ℕ
diff_words a b missing limits f told undecided ds =
    missing_lines missing ++ limits_line limits ++ flat_map (told_words (expired_count told == length told) a b f) told ++ expired_line told
    ++ undecided_words undecided ++ diff_summary missing limits (length told) ds

-- of switches whose ports differ
abbrev pub other_ports_words : List ℕ → List ℕ
other_ports_words missing = missing_lines missing ++ line.OTHER_PORTS
