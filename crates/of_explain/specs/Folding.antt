-- ROWS IN WORDS WITHOUT THE MANY TIME ROWS OF A LOG: the line of a time row that does nothing is left out if the next line is that of another one.
use Rattle.std.specs.Prelude.{◌≡◌, ℕ, ◌&&◌, nat_le, Bool, true, false, List, [], ◌∷◌, ◌++◌, length, take, codes, if◌then◌else◌}
use Rattle.std.specs.{List.list_all, Str.bytes_eq}
use Rattle.of_text.specs.Lines.{before, behind, ended}
use Rattle.of_replay.specs.Lexing.{is_digit, last_from, whole_lines}

-- the line of a time row behind its number, such as `12: t 9000000000`
abbrev pub is_time_row : List ℕ → Bool
is_time_row row = nat_le 3 (length row) && bytes_eq (take 3 row) (codes " t ")

abbrev pub is_moment : List ℕ → Bool
is_moment line = list_all is_digit (before 58 line) && is_time_row (behind 58 line)

-- whether such a line comes next: the first of these, or the one after them
abbrev pub moment_follows : Bool → List (List ℕ) → Bool
moment_follows after [] = after
moment_follows after (line ∷ lines) = is_moment line

-- WHAT IS PRINTED of lines, after which such a line comes, or not
abbrev pub folded_lines : Bool → List (List ℕ) → List ℕ
folded_lines after [] = []
folded_lines after (line ∷ lines) = (if is_moment line && moment_follows after lines then [] else ended line) ++ folded_lines after lines

-- and of a text: of its lines, and all that has begun of another one
abbrev pub folded_text : List ℕ → List ℕ
folded_text text = folded_lines false (whole_lines text) ++ last_from [] text

-- A TEXT THAT COMES IN PARTS: what of it is still to be printed

pub record Fold : Type 0 where
  pub held : List ℕ
  pub begun : List ℕ

-- the line of a time row, if it is the last one
abbrev pub held_line : List (List ℕ) → List ℕ
held_line [] = []
held_line (line ∷ []) = if is_moment line then ended line else []
held_line (line ∷ next ∷ lines) = held_line (next ∷ lines)

pub record IsFolded (text printed : List ℕ) (f : Fold) : Type 0 where
  pub printed_is : printed ≡ folded_lines true (whole_lines text)
  pub held_is : f.held ≡ held_line (whole_lines text)
  pub begun_is : f.begun ≡ last_from [] text
