-- THE REPORT OF `check` AS JSON (RFC 8259): one object in one line. Its strings have no characters that need an escape.
use Rattle.std.specs.Prelude.{ℕ, Bool, List, [], ◌∷◌, ◌++◌, slice_get, length, codes, decimal, Option, Some, None}
use Rattle.hex.specs.Hex.{encode_lower}
use Rattle.of_text.specs.Flows.{Flow}
use Rattle.of_check.specs.declared.remark.Remark.TheVariants.{Unreachable, NoTableMiss, EmptyGoto, IngressOutput, UnseenActions, UnusedGroup, NoBuckets}
use Rattle.of_check.specs.{Tables.flows_at, declared.remark.Remark.Remark, declared.finding.Finding.Finding, declared.verdict.Verdict.Verdict}
use Rattle.of_check.specs.declared.verdict.Verdict.TheVariants.{Wins, Never, Unreceived, Open}
use Rattle.of_check.specs.Verdicts.{is_never}
use Rattle.of_values.specs.{Numbers.hexadecimal, Origins.EntryOrigin}
use Rattle.of_json.specs.Parts.{document_head, key, listed, match_object, number_member, text_member, truth_member}
use Rattle.of_json.specs.Strings.{array_member, counters_member}
use Rattle.of_report.specs.Report.{count, is_found, is_open, is_win, packet_as_words}
use Rattle.of_report.specs.Entries.{origin_at}

-- ---- a flow entry: `"table":1,"entry":0,"line":12,"priority":100,"match":{"eth_type":"0x0800"},"counters":{"n_packets":"0"}`

abbrev pub line_member : Option EntryOrigin → List ℕ
line_member None = []
line_member (Some o) = number_member (codes "line") o.line

-- what a dump counted of it, if it counted something
abbrev pub some_counters : List (List ℕ) → List ℕ
some_counters [] = []
some_counters (w ∷ ws) = counters_member (w ∷ ws)

abbrev pub counters_of : Option EntryOrigin → List ℕ
counters_of None = []
counters_of (Some o) = some_counters o.counters

abbrev pub match_member_of : Flow → List ℕ
match_member_of f = 44 ∷ key (codes "match") ++ match_object f.fields

unfoldable pub reported_flow_members : Option EntryOrigin → Option Flow → List ℕ
reported_flow_members origin None = []
reported_flow_members origin (Some f) = line_member origin ++ number_member (codes "priority") f.head.priority ++ match_member_of f ++ counters_of origin

unfoldable pub entry_members : List (List EntryOrigin) → List (List Flow) → ℕ → ℕ → List ℕ
entry_members origins tables table place =
    key (codes "table") ++ decimal table ++ number_member (codes "entry") place ++ reported_flow_members (origin_at origins table place) (slice_get (flows_at tables table) place)

unfoldable pub entry_object : List (List EntryOrigin) → List (List Flow) → ℕ → ℕ → List ℕ
entry_object origins tables table place = 123 ∷ entry_members origins tables table place ++ 125 ∷ []

-- ---- a finding

-- the packet as words, if there are such
abbrev pub words_member : Option (List ℕ) → List ℕ
words_member None = []
words_member (Some words) = text_member (codes "words") words

unfoldable pub packet_members : List ℕ → ℕ → ℕ → List ℕ
packet_members frame in_port metadata =
    text_member (codes "verdict") (codes "wins") ++ number_member (codes "in_port") in_port ++ text_member (codes "metadata") (hexadecimal 1 metadata)
    ++ text_member (codes "frame") (encode_lower frame) ++ words_member (packet_as_words frame in_port metadata)

unfoldable pub shadows_member : List (List EntryOrigin) → List (List Flow) → ℕ → List ℕ → List ℕ
shadows_member origins tables table by = array_member (codes "shadowed_by") (listed (entry_object origins tables table) by)

unfoldable pub never_members : List (List EntryOrigin) → List (List Flow) → ℕ → List ℕ → Bool → List ℕ
never_members origins tables table by tie =
    text_member (codes "verdict") (codes "never wins") ++ truth_member (codes "tie") tie ++ shadows_member origins tables table by

unfoldable pub verdict_members : List (List EntryOrigin) → List (List Flow) → ℕ → Verdict → List ℕ
verdict_members origins tables table (Wins frame in_port metadata) = packet_members frame.items in_port metadata
verdict_members origins tables table (Never by tie) = never_members origins tables table by.items tie
verdict_members origins tables table Unreceived = text_member (codes "verdict") (codes "never wins at a port that a switch has")
verdict_members origins tables table Open = text_member (codes "verdict") (codes "undecided")

unfoldable pub finding_object : List (List EntryOrigin) → List (List Flow) → Finding → List ℕ
finding_object origins tables f = 123 ∷ entry_members origins tables f.table f.place ++ verdict_members origins tables f.table f.verdict ++ 125 ∷ []

-- ---- a remark

abbrev pub remark_member : List ℕ → List ℕ
remark_member text = text_member (codes "remark") text

-- what is remarked of an entry, with a number
unfoldable pub entry_remark : List ℕ → List ℕ → List ℕ → ℕ → List ℕ
entry_remark members remark name n = members ++ (remark_member remark ++ number_member name n)

unfoldable pub remark_members : List (List EntryOrigin) → List (List Flow) → Remark → List ℕ
remark_members origins tables (Unreachable table) = key (codes "table") ++ decimal table ++ remark_member (codes "unreachable")
remark_members origins tables (NoTableMiss table) = key (codes "table") ++ decimal table ++ remark_member (codes "no table-miss entry")
remark_members origins tables (EmptyGoto table place to) = entry_remark (entry_members origins tables table place) (codes "goto to a table without entries") (codes "to") to
remark_members origins tables (IngressOutput table place number) = entry_remark (entry_members origins tables table place) (codes "output to the ingress port") (codes "port") number
remark_members origins tables (UnseenActions table place n) = entry_remark (entry_members origins tables table place) (codes "last actions unseen") (codes "count") n
remark_members origins tables (UnusedGroup id) = key (codes "group") ++ decimal id ++ remark_member (codes "unused")
remark_members origins tables (NoBuckets id) = key (codes "group") ++ decimal id ++ remark_member (codes "no buckets")

unfoldable pub remark_object : List (List EntryOrigin) → List (List Flow) → Remark → List ℕ
remark_object origins tables r = 123 ∷ remark_members origins tables r ++ 125 ∷ []

-- ---- THE DOCUMENT: each finding, each remark, how many entries there are of each kind, whether something was found, and further members

unfoldable pub summary_members : List Finding → List ℕ
summary_members findings =
    key (codes "flows") ++ decimal (length findings) ++ number_member (codes "win") (count is_win findings) ++ number_member (codes "never_win") (count is_never findings)
    ++ number_member (codes "undecided") (count is_open findings)

unfoldable pub summary_member : List Finding → List ℕ
summary_member findings = 44 ∷ key (codes "summary") ++ 123 ∷ summary_members findings ++ 125 ∷ []

unfoldable pub report_head_members : List Finding → List Remark → List ℕ
report_head_members findings remarks = document_head (codes "check") ++ truth_member (codes "found") (is_found findings remarks) ++ summary_member findings

unfoldable pub flows_member : List (List EntryOrigin) → List (List Flow) → List Finding → List ℕ
flows_member origins tables findings = array_member (codes "flows") (listed (finding_object origins tables) findings)

unfoldable pub remarks_member : List (List EntryOrigin) → List (List Flow) → List Remark → List ℕ
remarks_member origins tables remarks = array_member (codes "remarks") (listed (remark_object origins tables) remarks)

unfoldable pub report_json : List (List EntryOrigin) → List (List Flow) → List Finding → List Remark → List ℕ → List ℕ
report_json origins tables findings remarks further =
    123 ∷ report_head_members findings remarks ++ flows_member origins tables findings ++ remarks_member origins tables remarks ++ further ++ 125 ∷ 10 ∷ []
