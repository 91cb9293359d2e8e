-- THE REPORT OF `check` ON THE FLOWS OF A FILE OF OVS-OFCTL, in words: findings first, then a summary, and then, if all is asked for, the flows that win.
use Rattle.std.specs.Prelude.{◌≡◌, ℕ, ◌==◌, ◌||◌, Bool, not, List, [], ◌∷◌, ◌++◌, length, filter, slice_get, codes, decimal, Option, Some, None, Result, if◌then◌else◌}
use Rattle.std.specs.List.{flat_map}
use Rattle.of_values.specs.{Entries.entry_words, Filled.filled, Origins.further_counter, Origins.view_words}
use Rattle.of_report.specs.Report.{counted_words, is_found, packet_said, summary, tie_words, unreceived_words}
use Rattle.of_report.specs.{declared.shadowing.TheConstants.UNREACHABLE, Files.IsFindingResult}
use Rattle.of_replay.specs.declared.event_file.Ended.{Ended}
use Rattle.of_check.specs.{declared.finding.Finding.Finding, declared.verdict.Verdict.Verdict}
use Rattle.of_check.specs.declared.verdict.Verdict.TheVariants.{Wins, Never, Unreceived, Open}
use Rattle.of_shadowing.specs.{declared.listed_flow.ListedFlow.ListedFlow, Reached.AreUnreachable, Shadows.AreVerdicts}

-- A FLOW: `table 10 line 25 (priority 50, eth_type 0x0800, reg0=0x1)`
unfoldable pub flow_name : ListedFlow → List ℕ
flow_name f = codes "table " ++ decimal f.table ++ codes " line " ++ decimal f.line ++ codes " (" ++ entry_words f.priority f.fields ++ flat_map further_counter (view_words f.words.items) ++ codes ")"

abbrev pub listed_flow_at : Option ListedFlow → List ℕ
listed_flow_at None = []
listed_flow_at (Some f) = flow_name f

unfoldable pub indented_flow : List ListedFlow → ℕ → List ℕ
indented_flow flows place = codes "    " ++ listed_flow_at (slice_get flows place) ++ 10 ∷ []

unfoldable pub flow_never_words : List ListedFlow → ℕ → Verdict → List ℕ
flow_never_words flows place (Never by tie) = listed_flow_at (slice_get flows place) ++ tie_words tie ++ flat_map (indented_flow flows) by.items
flow_never_words flows place Unreceived = listed_flow_at (slice_get flows place) ++ unreceived_words
flow_never_words flows place (Wins frame in_port metadata) = []
flow_never_words flows place Open = []

unfoldable pub flow_open_words : List ListedFlow → ℕ → Verdict → List ℕ
flow_open_words flows place Open = listed_flow_at (slice_get flows place) ++ codes " is undecided" ++ 10 ∷ []
flow_open_words flows place (Wins frame in_port metadata) = []
flow_open_words flows place (Never by tie) = []
flow_open_words flows place Unreceived = []

unfoldable pub flow_win_words : Bool → List ListedFlow → ℕ → Verdict → List ℕ
flow_win_words words flows place (Wins frame in_port metadata) = listed_flow_at (slice_get flows place) ++ codes " wins if its words hold and no others: " ++ packet_said words frame.items in_port metadata ++ 10 ∷ []
flow_win_words words flows place (Never by tie) = []
flow_win_words words flows place Unreceived = []
flow_win_words words flows place Open = []

-- what is checked, and how many flows have conditions
abbrev pub has_conditions : ListedFlow → Bool
has_conditions f = not (length f.words.items == 0)

unfoldable pub conditions_line : List ListedFlow → List ℕ
conditions_line flows =
    codes "this switch cannot run these flows (import says why): only their tables, priorities and matches, and the tables they lead to, are checked" ++ 10 ∷ []
    ++ counted_words (length (filter has_conditions flows)) (codes " flows match words that OpenFlow 1.3 does not have: each word is a condition of its own, which may hold or not") ++ 10 ∷ []

abbrev pub flow_wins_if : Bool → Bool → List ListedFlow → List Finding → List ℕ
flow_wins_if all words flows findings = if all then flat_map (λ f. flow_win_words words flows f.place f.verdict) findings else []

abbrev pub unreachable_line : ℕ → List ℕ
unreachable_line table = filled UNREACHABLE (decimal table ∷ [])

-- THE REPORT on these findings and unreachable tables
unfoldable pub flow_report : Bool → Bool → List ListedFlow → List Finding → List ℕ → List ℕ
flow_report all words flows findings tables =
    conditions_line flows ++ flat_map (λ f. flow_never_words flows f.place f.verdict) findings ++ flat_map (λ f. flow_open_words flows f.place f.verdict) findings
    ++ flat_map unreachable_line tables ++ summary findings ++ flow_wins_if all words flows findings

-- the text of the report on these flows, after so many steps at most for each, and whether something was found: a flow that does not win, or an unreachable table
abbrev pub IsShadowReport : Result Bool Ended → ℕ → Bool → Bool → List ListedFlow → List ℕ → Type 0
IsShadowReport result steps all words flows text =
    (findings : List Finding) × (tables : List ℕ) × AreVerdicts flows steps findings × AreUnreachable flows tables × (text ≡ flow_report all words flows findings tables)
    × IsFindingResult result (is_found findings [] || not (length tables == 0))
