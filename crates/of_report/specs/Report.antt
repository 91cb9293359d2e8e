-- THE REPORT OF `check` in words: findings first, then a summary, and then, if all is asked for, the entries that win.
use Rattle.std.specs.Prelude.{ℕ, ◌==◌, Bool, true, false, not, ◌&&◌, ◌||◌, List, [], ◌∷◌, ◌++◌, length, filter, codes, decimal, Option, Some, None, if◌then◌else◌}
use Rattle.std.specs.List.{flat_map, list_any}
use Rattle.hex.specs.Hex.{encode_lower}
use Rattle.of_text.specs.Flows.{Flow}
use Rattle.of_check.specs.declared.remark.Remark.TheVariants.{Unreachable, NoTableMiss, EmptyGoto, IngressOutput, UnseenActions, UnusedGroup, NoBuckets}
use Rattle.of_check.specs.{declared.remark.Remark.Remark, declared.finding.Finding.Finding, declared.verdict.Verdict.Verdict}
use Rattle.of_check.specs.declared.verdict.Verdict.TheVariants.{Wins, Never, Unreceived, Open}
use Rattle.of_check.specs.Verdicts.{is_never}
use Rattle.of_values.specs.{Numbers.hexadecimal, Numbers.port_in_words, Origins.EntryOrigin}
use Rattle.of_frame_words.specs.Printed.{frame_words_of}
use Rattle.of_report.specs.Entries.{entry}

-- ---- entries that never win, each with those that shadow it

unfoldable pub tie_words : Bool → List ℕ
tie_words tie =
    (if tie then codes " never wins (tie: OpenFlow does not say which of two entries of one priority wins): shadowed by" else codes " never wins: shadowed by")
    ++ 10 ∷ []

unfoldable pub shadow_line : List (List EntryOrigin) → List (List Flow) → ℕ → ℕ → List ℕ
shadow_line origins tables table place = codes "    " ++ entry origins tables table place ++ 10 ∷ []

abbrev pub shadow_lines : List (List EntryOrigin) → List (List Flow) → ℕ → List ℕ → List ℕ
shadow_lines origins tables table places = flat_map (shadow_line origins tables table) places

-- nothing shadows an entry that wins only with ports that no switch has
unfoldable pub unreceived_words : List ℕ
unreceived_words = codes " never wins at a port that a switch has\n"

unfoldable pub never_words : List (List EntryOrigin) → List (List Flow) → ℕ → ℕ → Verdict → List ℕ
never_words origins tables table place (Never by tie) = entry origins tables table place ++ tie_words tie ++ shadow_lines origins tables table by.items
never_words origins tables table place Unreceived = entry origins tables table place ++ unreceived_words
never_words origins tables table place (Wins frame in_port metadata) = []
never_words origins tables table place Open = []

-- ---- entries that were not decided

unfoldable pub open_words : List (List EntryOrigin) → List (List Flow) → ℕ → ℕ → Verdict → List ℕ
open_words origins tables table place Open = entry origins tables table place ++ codes " is undecided" ++ 10 ∷ []
open_words origins tables table place (Wins frame in_port metadata) = []
open_words origins tables table place (Never by tie) = []
open_words origins tables table place Unreceived = []

-- ---- entries that win, each with a packet

unfoldable pub reported_packet_words : List ℕ → ℕ → ℕ → List ℕ
reported_packet_words frame in_port metadata = codes "in_port " ++ port_in_words in_port ++ codes ", metadata " ++ hexadecimal 1 metadata ++ codes ", frame " ++ encode_lower frame

-- as words that `trace` takes, which say no metadata; if there are such words
abbrev pub packet_as_words : List ℕ → ℕ → ℕ → Option (List ℕ)
packet_as_words frame in_port metadata = if metadata == 0 then frame_words_of in_port frame else None

abbrev pub words_or : Option (List ℕ) → List ℕ → List ℕ
words_or None other = other
words_or (Some words) other = words

-- if words are asked for
abbrev pub words_asked : Bool → Option (List ℕ) → Option (List ℕ)
words_asked asked words = if asked then words else None

unfoldable pub packet_said : Bool → List ℕ → ℕ → ℕ → List ℕ
packet_said words frame in_port metadata = words_or (words_asked words (packet_as_words frame in_port metadata)) (reported_packet_words frame in_port metadata)

unfoldable pub win_words : Bool → List (List EntryOrigin) → List (List Flow) → ℕ → ℕ → Verdict → List ℕ
win_words words origins tables table place (Wins frame in_port metadata) = entry origins tables table place ++ codes " wins: " ++ packet_said words frame.items in_port metadata ++ 10 ∷ []
win_words words origins tables table place (Never by tie) = []
win_words words origins tables table place Unreceived = []
win_words words origins tables table place Open = []

-- the lines of each finding, one after the other
abbrev pub of_findings : (ℕ → ℕ → Verdict → List ℕ) → List Finding → List ℕ
of_findings words findings = flat_map (λ f. words f.table f.place f.verdict) findings

-- ---- what is remarked of tables and groups

abbrev pub report_table_words : ℕ → List ℕ
report_table_words table = codes "table " ++ decimal table

abbrev pub report_group_words : ℕ → List ℕ
report_group_words id = codes "group " ++ decimal id

unfoldable pub reported_remark_words : List (List EntryOrigin) → List (List Flow) → Remark → List ℕ
reported_remark_words origins tables (Unreachable table) = report_table_words table ++ codes " is unreachable: no goto leads to it from table 0"
reported_remark_words origins tables (NoTableMiss table) = report_table_words table ++ codes " has no table-miss entry: packets that match none of its entries are dropped"
reported_remark_words origins tables (EmptyGoto table place to) = entry origins tables table place ++ (codes " goes to table " ++ decimal to ++ codes ", which has no entries: its packets are dropped")
reported_remark_words origins tables (IngressOutput table place number) = entry origins tables table place ++ (codes " sends to port " ++ port_in_words number ++ codes ", the ingress port that its match requires: nothing leaves")
reported_remark_words origins tables (UnseenActions table place n) = entry origins tables table place ++ (codes " has at the end of its apply " ++ decimal n ++ codes " actions that nothing sees")
reported_remark_words origins tables (UnusedGroup id) = report_group_words id ++ codes " is unused: no entry and no group names it"
reported_remark_words origins tables (NoBuckets id) = report_group_words id ++ codes " has no buckets: packets end there"

abbrev pub says_unreachable : ℕ → Remark → Bool
says_unreachable table (Unreachable other) = other == table
says_unreachable table other = false

-- A REMARK IS A FINDING, but for that of a table without a table-miss entry (5.4) that is the first one, or that no packet comes to: many tables are so on purpose
abbrev pub is_finding : List Remark → Remark → Bool
is_finding remarks (NoTableMiss table) = not (table == 0) && not (list_any (says_unreachable table) remarks)
is_finding remarks other = true

unfoldable pub reported_remark_line : Bool → List Remark → List (List EntryOrigin) → List (List Flow) → Remark → List ℕ
reported_remark_line all remarks origins tables r = if all || is_finding remarks r then reported_remark_words origins tables r ++ 10 ∷ [] else []

-- ---- the summary: `12 flows: 9 win, 3 never win, 0 undecided`

abbrev pub is_win : Verdict → Bool
is_win (Wins frame in_port metadata) = true
is_win (Never by tie) = false
is_win Unreceived = false
is_win Open = false

abbrev pub is_open : Verdict → Bool
is_open Open = true
is_open (Wins frame in_port metadata) = false
is_open (Never by tie) = false
is_open Unreceived = false

abbrev pub count : (Verdict → Bool) → List Finding → ℕ
count is findings = length (filter (λ f. is f.verdict) findings)

unfoldable pub counted_words : ℕ → List ℕ → List ℕ
counted_words n words = decimal n ++ words

unfoldable pub summary : List Finding → List ℕ
summary findings =
    counted_words (length findings) (codes " flows: ") ++ counted_words (count is_win findings) (codes " win, ") ++ counted_words (count is_never findings) (codes " never win, ")
    ++ counted_words (count is_open findings) (codes " undecided") ++ 10 ∷ []

-- ---- THE REPORT: on these findings and remarks, where entries come from these lines, and tables have these flows

abbrev pub wins_if : Bool → Bool → List (List EntryOrigin) → List (List Flow) → List Finding → List ℕ
wins_if all words origins tables findings = if all then of_findings (win_words words origins tables) findings else []

unfoldable pub report_words : Bool → Bool → List (List EntryOrigin) → List (List Flow) → List Finding → List Remark → List ℕ
report_words all words origins tables findings remarks =
    of_findings (never_words origins tables) findings ++ of_findings (open_words origins tables) findings
    ++ flat_map (reported_remark_line all remarks origins tables) remarks ++ summary findings ++ wins_if all words origins tables findings

-- SOMETHING IS FOUND: an entry that does not win, or a remark that is a finding
abbrev pub is_found : List Finding → List Remark → Bool
is_found findings remarks = list_any (λ f. not (is_win f.verdict)) findings || list_any (is_finding remarks) remarks
