-- THE OUTCOME OF AN IMPORT AS JSON (RFC 8259): one object in one line.
use Rattle.std.specs.Prelude.{ℕ, ◌+◌, ◌==◌, Bool, true, false, List, [], ◌∷◌, ◌++◌, length, codes, decimal, Option, Some, None, if◌then◌else◌}
use Rattle.of_wire.specs.CodeNames.{error_name}
use Rattle.of_text.specs.Lines.{lines_of}
use Rattle.of_values.specs.Origins.{view_words}
use Rattle.of_json.specs.Parts.{document_head, key, listed, match_object, number_member, text_member, truth_member}
use Rattle.of_json.specs.Strings.{array_member, counters_member, string, string_member, string_of}
use Rattle.of_ovs_lines.specs.{declared.word_fault.WordFault.WordFault, declared.line.FlowMarks.FlowMarks}
use Rattle.of_import.specs.{declared.parsed_lines.LineFaults.LineFaults, declared.parsed_lines.FlowLine.FlowLine, declared.parsed_lines.GroupLine.GroupLine, declared.kept.KeptLines.KeptLines}
use Rattle.of_import.specs.{declared.kept.LineRefusal.LineRefusal, declared.import.ImportError.ImportError}
use Rattle.of_import.specs.declared.import.ImportError.TheVariants.{NoMemory, Faults, Refused, TooMany}
use Rattle.of_import_report.specs.{Help.help_of, Help.word_reason, Keywords.keywords_in, Keywords.lines_with}

-- the first member of an object
unfoldable pub import_line_member : ℕ → List ℕ
import_line_member n = key (codes "line") ++ decimal n

-- ---- lines that are refused: `{"line":3,"words":[{"word":"vlan_pcp=9","why":"invalid value","help":"0 to 7"}]}` for their words, `{"line":9,"type":2,"code":9,"error":".."}` by the switch

-- which values the keyword has, or which may be meant, if something helps
abbrev pub help_member : List ℕ → List ℕ
help_member help = if length help == 0 then [] else string_member (codes "help") help

unfoldable pub word_object : WordFault → List ℕ
word_object f = 123 ∷ key (codes "word") ++ string f.word.items ++ text_member (codes "why") (word_reason f) ++ help_member (help_of f) ++ 125 ∷ []

unfoldable pub fault_object : LineFaults → List ℕ
fault_object l = 123 ∷ import_line_member l.line ++ array_member (codes "words") (listed word_object l.faults.items) ++ 125 ∷ []

-- an error that the standard names (OpenFlow 1.3.5, 7.4.4)
abbrev pub error_member : Option (List ℕ) → List ℕ
error_member None = []
error_member (Some name) = text_member (codes "error") name

unfoldable pub refusal_object : LineRefusal → List ℕ
refusal_object r =
    123 ∷ import_line_member r.line ++ number_member (codes "type") r.code.kind ++ number_member (codes "code") r.code.code ++ error_member (error_name r.code.kind r.code.code)
    ++ 125 ∷ []

-- `{"keyword":"ct","lines":2}`
unfoldable pub keyword_object : List LineFaults → List ℕ → List ℕ
keyword_object faults name = 123 ∷ key (codes "keyword") ++ string name ++ number_member (codes "lines") (lines_with faults name) ++ 125 ∷ []

unfoldable pub refused_members : List LineFaults → List LineRefusal → List ℕ
refused_members faults refused =
    array_member (codes "faults") (listed fault_object faults) ++ array_member (codes "refused") (listed refusal_object refused)
    ++ array_member (codes "keywords") (listed (keyword_object faults) (keywords_in faults))

-- ---- a table that has another number: `{"from":60,"to":1}`

unfoldable pub move_object : ℕ × ℕ → List ℕ
move_object m = 123 ∷ key (codes "from") ++ decimal m.0 ++ number_member (codes "to") m.1 ++ 125 ∷ []

-- ---- groups and flows: `{"line":4,"group":1}`, and `{"line":5,"table":0,"priority":10,"match":{..},"counters":{..},"without":[..],"resubmit":false}`

unfoldable pub group_object : GroupLine → List ℕ
group_object g = 123 ∷ import_line_member g.line ++ number_member (codes "group") g.group.head.id ++ 125 ∷ []

-- actions that are left out, and whether `resubmit` became GOTO_TABLE
unfoldable pub marks_members : FlowMarks → List ℕ
marks_members m =
    counters_member (view_words m.counters.items) ++ array_member (codes "without") (listed string_of m.left.items) ++ truth_member (codes "resubmit") m.resubmits

unfoldable pub import_entry_members : FlowLine → List ℕ
import_entry_members f =
    import_line_member f.line ++ number_member (codes "table") f.flow.head.table ++ number_member (codes "priority") f.flow.head.priority
    ++ 44 ∷ key (codes "match") ++ match_object f.flow.fields.items

unfoldable pub flow_object : FlowLine → List ℕ
flow_object f = 123 ∷ import_entry_members f ++ marks_members f.marks ++ 125 ∷ []

-- ---- THE DOCUMENT of an import: how many lines are left out or lose an action, the lines that are refused, new numbers of tables, groups and flows, and the
-- lines of the flow text

unfoldable pub import_head_members : Bool → List ℕ
import_head_members imported = document_head (codes "import") ++ truth_member (codes "imported") imported

unfoldable pub item_members : KeptLines → List ℕ
item_members kept = array_member (codes "groups") (listed group_object kept.groups.items) ++ array_member (codes "flows") (listed flow_object kept.flows.items)

abbrev pub lines_left_out : List LineFaults → List LineRefusal → ℕ → ℕ
lines_left_out faults refused changed = length faults + length refused + changed

unfoldable pub import_json : List ℕ → List LineFaults → KeptLines → List (ℕ × ℕ) → ℕ → List ℕ
import_json text faults kept moves changed =
    123 ∷ import_head_members true ++ number_member (codes "left_out") (lines_left_out faults kept.refused.items changed) ++ refused_members faults kept.refused.items
    ++ array_member (codes "tables") (listed move_object moves) ++ item_members kept ++ array_member (codes "text") (listed string (lines_of text)) ++ 125 ∷ 10 ∷ []

-- ---- THE DOCUMENT if there is no import: the lines that are refused, or how many tables there are, if these are too many

abbrev pub count_member : Option ℕ → List ℕ
count_member None = []
count_member (Some count) = number_member (codes "table_count") count

unfoldable pub refused_json : List LineFaults → List LineRefusal → Option ℕ → List ℕ
refused_json faults refused count = 123 ∷ import_head_members false ++ refused_members faults refused ++ count_member count ++ 125 ∷ 10 ∷ []

abbrev pub is_memory : ImportError → Bool
is_memory NoMemory = true
is_memory (Faults faults refused) = false
is_memory (Refused line code) = false
is_memory (TooMany count) = false

unfoldable pub no_import_json : ImportError → List ℕ
no_import_json NoMemory = []
no_import_json (Faults faults refused) = refused_json faults.items refused.items None
no_import_json (Refused line code) = refused_json [] (record { line = line; code = code } ∷ []) None
no_import_json (TooMany count) = refused_json [] [] (Some count)
