-- THE ENTRIES THAT A FRAME HITS at one of the two switches, as `check` names entries, and which of them changed.
use Rattle.std.specs.Prelude.{ℕ, List, ◌∷◌, [], ◌++◌, codes, if◌then◌else◌}
use Rattle.std.specs.List.{flat_map}
use Rattle.of_json.specs.{Parts.listed, Parts.truth, Strings.array_member}
use Rattle.of_report.specs.{Entries.entry, Json.entry_object}
use Rattle.of_values.specs.Origins.{view_origins}
use Rattle.of_diff_report.specs.{declared.hits.FileFlows.FileFlows, declared.hits.MarkedHit.MarkedHit}

-- `    first: hits table 0 entry 1 (line 3, priority 20, eth_type 0x0800), changed`
unfoldable pub hit_line : List ℕ → FileFlows → MarkedHit → List ℕ
hit_line who flows h =
    who ++ codes "hits " ++ entry (view_origins flows.origins.now) flows.config.now.tables h.hit.table h.hit.number ++ (if h.changed then codes ", changed\n" else 10 ∷ [])

abbrev pub hit_lines : List ℕ → FileFlows → List MarkedHit → List ℕ
hit_lines who flows hits = flat_map (hit_line who flows) hits

-- further members: an array of these entries, and one that says for each whether it changed
abbrev pub entry_of_hit : FileFlows → MarkedHit → List ℕ
entry_of_hit flows h = entry_object (view_origins flows.origins.now) flows.config.now.tables h.hit.table h.hit.number

unfoldable pub hit_entries_member : List ℕ → FileFlows → List MarkedHit → List ℕ
hit_entries_member name flows hits = array_member name (listed (entry_of_hit flows) hits)

abbrev pub truth_of_hit : MarkedHit → List ℕ
truth_of_hit h = truth h.changed

unfoldable pub changed_member : List ℕ → List MarkedHit → List ℕ
changed_member name hits = array_member name (listed truth_of_hit hits)
