-- FILES OF REQUIREMENTS, one a line; empty lines and comments, which begin with `#`, are passed over.
use Rattle.std.specs.Prelude.{◌≡◌, ℕ, ◌+◌, Bool, List, [], ◌∷◌, ◌++◌, map, Result, Ok, Err, if◌then◌else◌}
use Rattle.of_lines.specs.Lines.{before, is_passed, lines_of}
use Rattle.of_ovs_words.specs.Outcomes.{◌>>=◌}
use Rattle.of_require.specs.{declared.line.Line.Line, declared.refusal.NoRequirements.NoRequirements, declared.refusal.NoRequirement.NoRequirement}
use Rattle.of_require.specs.declared.refusal.NoRequirement.TheVariants.{NoMemory, Refused}
use Rattle.of_require.specs.{Reading.SaidRequirement, Reading.requirement_said, Reading.unspaced, Reading.view_requirement, Refusals.LineRefusal}

pub record SaidLine : Type 0 where
  pub number : ℕ
  pub text : List ℕ
  pub requirement : SaidRequirement

abbrev pub view_line : Line → SaidLine
view_line l = record { number = l.number; text = l.text.items; requirement = view_requirement l.requirement }

-- the number of a line that is refused, and why
pub record FileRefusal : Type 0 where
  pub line : ℕ
  pub refusal : LineRefusal

-- a line without CR at its end
abbrev pub line_text : List ℕ → List ℕ
line_text line = before 13 line

abbrev pub is_passed_or_blank : List ℕ → Bool
is_passed_or_blank line = is_passed (unspaced line)

abbrev pub at_requirement_line : ℕ → List ℕ → Result SaidRequirement LineRefusal → Result (List SaidLine) FileRefusal
at_requirement_line number text (Ok r) = Ok (record { number = number; text = text; requirement = r } ∷ [])
at_requirement_line number text (Err refusal) = Err (record { line = number; refusal = refusal })

-- the requirement of a line, unless it is passed over
abbrev pub line_said : ℕ → List ℕ → Result (List SaidLine) FileRefusal
line_said number line = if is_passed_or_blank (line_text line) then Ok [] else at_requirement_line number (line_text line) (requirement_said (line_text line))

-- those of lines, which have numbers from this one on
abbrev pub lines_said : ℕ → List (List ℕ) → Result (List SaidLine) FileRefusal
lines_said number [] = Ok []
lines_said number (line ∷ lines) = line_said number line >>= λ own. lines_said (number + 1) lines >>= λ others. Ok (own ++ others)

-- THE REQUIREMENTS OF A FILE. Refused is the first line that is neither a requirement nor passed over.
abbrev pub requirements_in : List ℕ → Result (List SaidLine) FileRefusal
requirements_in file = lines_said 1 (lines_of file)

-- it is the refusal of this outcome, at the line, unless memory ran out
abbrev pub StopsAt : {A : Type 0} → Result A FileRefusal → ℕ → NoRequirement → Type 0
StopsAt outcome number NoMemory = Unit {0}
StopsAt outcome number (Refused r) = outcome ≡ Err (record { line = number; refusal = record { word = r.word.items; why = r.why } })

abbrev pub FileStops : {A : Type 0} → Result A FileRefusal → NoRequirements → Type 0
FileStops outcome stop = StopsAt outcome stop.line stop.why

-- a line adds what it says
abbrev pub AddsLine : ℕ → List ℕ → List Line → List Line → Type 0
AddsLine number line old new = (line_said number line >>= λ own. Ok (map view_line old ++ own)) ≡ Ok (map view_line new)
