-- WHAT LINES SAY, one after the other: groups by number, flows in the order of the lines, and the lines that are refused.
use Rattle.std.specs.Prelude.{ℕ, ◌+◌, ◌==◌, nat_lt, List, [], ◌∷◌, ◌++◌, codes, filter, if◌then◌else◌}
use Rattle.std.specs.List.{list_any}
use Rattle.of_text.specs.{Flows.Flow as TextFlow, Groups.TextGroup}
use Rattle.of_ovs_words.specs.declared.why.Why.TheVariants.{Again}
use Rattle.of_ovs_lines.specs.LineContents.{LineContent, Marks, Nothing, Group, Flow, Refused, parsed_line}
use Rattle.of_ovs_lines.specs.{declared.mode.Mode.Mode, PartialFlows.Refusal}

-- a flow with its line, counted from 1
pub record FlowAt : Type 0 where
  pub line : ℕ
  pub flow : TextFlow
  pub marks : Marks

pub record ParsedLines : Type 0 where
  pub groups : List (ℕ × TextGroup)
  pub flows : List FlowAt
  -- all refused words of a line
  pub faults : List (ℕ × List Refusal)

abbrev pub nothing_parsed : ParsedLines
nothing_parsed = record { groups = []; flows = []; faults = [] }

abbrev pub with_parsed_flow : ℕ → TextFlow → Marks → ParsedLines → ParsedLines
with_parsed_flow n f m t = record t { flows = t.flows ++ record { line = n; flow = f; marks = m } ∷ [] }

abbrev pub with_faults : ℕ → List Refusal → ParsedLines → ParsedLines
with_faults n rs t = record t { faults = t.faults ++ (n, rs) ∷ [] }

abbrev pub again : Refusal
again = record { word = codes "group_id"; why = Again }

-- in ascending order of number; a number that there is already is refused (6.5)
abbrev pub with_parsed_group : ℕ → TextGroup → ParsedLines → ParsedLines
with_parsed_group n g t =
    if list_any (λ h. h.1.head.id == g.head.id) t.groups then with_faults n (again ∷ []) t
    else record t { groups = filter (λ h. nat_lt h.1.head.id g.head.id) t.groups ++ (n, g) ∷ filter (λ h. nat_lt g.head.id h.1.head.id) t.groups }

-- one line more, of that number
abbrev pub with_line : ℕ → LineContent → ParsedLines → ParsedLines
with_line n Nothing t = t
with_line n (Group g) t = with_parsed_group n g t
with_line n (Flow f m) t = with_parsed_flow n f m t
with_line n (Refused rs) t = with_faults n rs t

-- lines more, after so many
abbrev pub parsed_lines_from : Mode → List ℕ → ℕ → ParsedLines → List (List ℕ) → ParsedLines
parsed_lines_from mode numbers n t [] = t
parsed_lines_from mode numbers n t (line ∷ lines) = parsed_lines_from mode numbers (n + 1) (with_line (n + 1) (parsed_line mode numbers line) t) lines

-- WHAT THE LINES OF A TEXT SAY, if tables get the numbers of the list
unfoldable pub parsed_lines_of : Mode → List ℕ → List (List ℕ) → ParsedLines
parsed_lines_of mode numbers lines = parsed_lines_from mode numbers 0 nothing_parsed lines
