-- HOW A RUN ENDS that writes a text of lines as it reads them.
use Rattle.std.specs.Prelude.{◌≡◌, ℕ, Bool, true, false, nat_lt, List, [], ◌∷◌, ◌++◌, Option, Some, None, if◌then◌else◌}
use Rattle.std.specs.Io.KnownBytes.{Appends}
use Rattle.of_replay.specs.declared.event_file.Ended.TheVariants.{Done, BadRow, Text, ReadFault, WriteFault, NoMemory}
use Rattle.of_replay.specs.{declared.event_file.Ended.Ended, Told.Answer, Told.Known, Told.NoneLeft, Told.given, Transfer.AllAnswers, Transfer.WrotePrefix, Lexing.whole_lines, Lexing.last_from}
use Rattle.of_replay.specs.Rows.{rows_of_lines}

-- the line that no LF ends yet: it is a line where the file ends
abbrev pub open_line : Bool → List ℕ → List (List ℕ)
open_line ended line = if ended then line ∷ [] else []

-- the lines of what was read: the whole ones, and where the end was read the last one
abbrev pub lines_read : Bool → List ℕ → List (List ℕ)
lines_read ended file = whole_lines file ++ open_line ended (last_from [] file)

-- all answers but the last
abbrev pub but_last : List Answer → List Answer
but_last [] = []
but_last (a ∷ []) = []
but_last (a ∷ b ∷ others) = a ∷ but_last (b ∷ others)

-- the lines that were whole before the last read
abbrev pub earlier_lines : List Answer → List (List ℕ)
earlier_lines answers = whole_lines (given (but_last answers))

-- the text of some first lines, none of which is bad, was written: of those that were whole before the last read, and maybe more
pub record PrintedFirst (text_of : List (List ℕ) → List ℕ) (earlier lines : List (List ℕ)) (old new : Option (List ℕ)) : Type 0 where
  pub more : List (List ℕ)
  pub others : List (List ℕ)
  pub lines_are : lines ≡ (earlier ++ more) ++ others
  pub good : (rows_of_lines (earlier ++ more)).bad ≡ None
  pub wrote : Appends old new (text_of (earlier ++ more))

-- by the lines that were read, and those that were whole before the last read
abbrev pub EndsPrinting : (List (List ℕ) → List ℕ) → Ended → Bool → List (List ℕ) → List (List ℕ) → Option (List ℕ) → Option (List ℕ) → Type 0
EndsPrinting text_of Done ended earlier lines old new = (ended ≡ true) × ((rows_of_lines lines).bad ≡ None) × Appends old new (text_of lines)
EndsPrinting text_of (BadRow n) ended earlier lines old new = ((rows_of_lines lines).bad ≡ Some n) × Appends old new (text_of lines)
EndsPrinting text_of (Text f) ended earlier lines old new = ⊥
EndsPrinting text_of ReadFault ended earlier lines old new = (ended ≡ false) × ((rows_of_lines lines).bad ≡ None) × Appends old new (text_of lines)
EndsPrinting text_of WriteFault ended earlier lines old new = WrotePrefix old (text_of lines) new
EndsPrinting text_of NoMemory ended earlier lines old new = PrintedFirst text_of earlier lines old new

-- from what a source answered to what a sink took
pub record PrintsLines (text_of : List (List ℕ) → List ℕ) (ended : Ended) (answers answers' : Known) (ends ends' : ℕ) (taken taken' : Option (List ℕ)) : Type 0 where
  pub more : List Answer
  pub answers_are : AllAnswers answers answers' more
  -- where the end was read, nothing is left
  pub whole : nat_lt ends ends' ≡ true → NoneLeft answers'
  pub ends_so : EndsPrinting text_of ended (nat_lt ends ends') (earlier_lines more) (lines_read (nat_lt ends ends') (given more)) taken taken'

-- what the lines print that were whole before the last read was written, however the run ended
pub record WrittenEarly (text_of : List (List ℕ) → List ℕ) (answers answers' : Known) (taken taken' : Option (List ℕ)) : Type 0 where
  pub more : List Answer
  pub answers_are : AllAnswers answers answers' more
  pub later : List ℕ
  pub wrote : Appends taken taken' (text_of (earlier_lines more) ++ later)
