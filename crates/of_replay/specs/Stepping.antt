-- Steps of a run, for contracts inside this crate.
use Rattle.std.specs.Prelude.{◌≡◌, ◌≢◌, ◌⊎◌, ℕ, ◌+◌, ◌<◌, ◌≤◌, nat_lt, Bool, true, false, List, [], ◌++◌, length, take, Option, Some, None, Result, Ok, Err}
use Rattle.std.specs.Io.KnownBytes.{Appends}
use Rattle.smallvec.specs.SmallVec.{SmallVec}
use Rattle.of_datapath.specs.declared.effect.Effect.{Effect}
use Rattle.of_switch.specs.Runs.{Happened, Report, Gives, IsRefused, run}
use Rattle.of_switch.specs.{declared.switch_error.SwitchError.SwitchError, declared.event.Event.Event, State.State}
use Rattle.of_switch.specs.declared.switch_error.SwitchError.TheVariants as error
use Rattle.of_replay.specs.declared.event_file.Ended.TheVariants.{Done, BadRow, ReadFault, WriteFault, NoMemory}
use Rattle.of_replay.specs.{declared.halt.Halt.Halt, declared.event_file.Ended.Ended, Told.Answer, Told.Known, Told.NoneLeft, Told.given, Transfer.AllAnswers, Transfer.WrotePrefix}
use Rattle.of_replay.specs.{Lexing.whole_lines, Lexing.whole_from, Lexing.last_from, Rows.rows_of_lines, Output.text_of, Output.refused_line, Play.lines_read, Play.earlier_lines}
use Rattle.of_replay.specs.RowTexts.{RowText, told}
use Rattle.of_replay.specs.declared.halt.Halt.TheVariants as halt
pub use Rattle.of_replay.specs.RowTexts.{row_happened}

-- A ROW

-- a call's report
abbrev pub IsReport : Result (SmallVec Effect) SwitchError → Report → Type 0
IsReport (Ok es) (Gives effects) = es.items ≡ effects
IsReport (Ok es) (IsRefused refusal) = ⊥
IsReport (Err e) (Gives effects) = ⊥
IsReport (Err e) (IsRefused refusal) = e ≡ refusal

-- what a row's call returns: its report, unless memory ran out
abbrev pub RowGives : Result (SmallVec Effect) SwitchError → Happened → State → Type 0
RowGives result h new = (result ≡ Err error.NoMemory) ⊎ (IsReport result h.report × (new ≡ h.state))

-- the report of a call is printed, or memory ran out
abbrev pub PrintsReport : Result (SmallVec Effect) SwitchError → Result (Unit {0}) SwitchError → List ℕ → List ℕ → Type 0
PrintsReport (Ok es) (Ok u) out out' = out' ≡ out ++ text_of es.items
PrintsReport (Err e) (Ok u) out out' = (e ≢ error.NoMemory) × (out' ≡ out ++ refused_line e)
PrintsReport called (Err e) out out' = e ≡ error.NoMemory

-- A LINE

-- what is printed for a line, or why the run halts at it
abbrev pub LineTells : RowText → Result (Unit {0}) Halt → ℕ → List ℕ → Option (Option Event) → State → State → List ℕ → List ℕ → Type 0
LineTells tale (Ok u) n line (Some row) s new out out' = (out' ≡ out ++ tale n s line row) × (new ≡ (row_happened s row).state)
LineTells tale (Ok u) n line None s new out out' = ⊥
LineTells tale (Err (halt.Bad m)) n line (Some row) s new out out' = ⊥
LineTells tale (Err (halt.Bad m)) n line None s new out out' = (m ≡ n) × (out' ≡ out)
LineTells tale (Err halt.Memory) n line row s new out out' = out' ≡ out
LineTells tale (Err halt.Read) n line row s new out out' = ⊥
LineTells tale (Err halt.Write) n line row s new out out' = ⊥

-- the text of a row is written or still to be written, after what was to be written before
abbrev pub LineGoes : RowText → Result (Unit {0}) Halt → ℕ → List ℕ → Option (Option Event) → State → State → List ℕ → List ℕ → Option (List ℕ) → Option (List ℕ) → Type 0
LineGoes tale (Ok u) n line (Some row) s new out out' taken taken' =
    (wrote : List ℕ) × Appends taken taken' wrote × (wrote ++ out' ≡ out ++ tale n s line row) × (new ≡ (row_happened s row).state)
LineGoes tale (Ok u) n line None s new out out' taken taken' = ⊥
LineGoes tale (Err (halt.Bad m)) n line (Some row) s new out out' taken taken' = ⊥
LineGoes tale (Err (halt.Bad m)) n line None s new out out' taken taken' = (m ≡ n) × (out' ≡ out) × (taken' ≡ taken)
LineGoes tale (Err halt.Memory) n line row s new out out' taken taken' = (out' ≡ out) × (taken' ≡ taken)
LineGoes tale (Err halt.Read) n line row s new out out' taken taken' = ⊥
LineGoes tale (Err halt.Write) n line (Some row) s new out out' taken taken' = WrotePrefix taken (out ++ tale n s line row) taken'
LineGoes tale (Err halt.Write) n line None s new out out' taken taken' = ⊥

-- A RUN, on a switch that was in the state `begun` before it

-- the text of these lines was written, but for the end that is still to be written
pub record Prints (begun : State) (tale : RowText) (lines : List (List ℕ)) (out : List ℕ) (first taken : Option (List ℕ)) : Type 0 where
  pub wrote : List ℕ
  pub taken_is : Appends first taken wrote
  pub text_is : wrote ++ out ≡ told begun tale lines

-- the same for some first lines, none of which is bad: for those that were whole before the last read, and maybe more
pub record PrintsFirst (begun : State) (tale : RowText) (earlier lines : List (List ℕ)) (out : List ℕ) (first taken : Option (List ℕ)) : Type 0 where
  pub more : List (List ℕ)
  pub others : List (List ℕ)
  pub lines_are : lines ≡ (earlier ++ more) ++ others
  pub good : (rows_of_lines (earlier ++ more)).bad ≡ None
  pub prints : Prints begun tale (earlier ++ more) out first taken

-- these lines were played, and none of them is bad
pub record Going (begun : State) (tale : RowText) (lines : List (List ℕ)) (n : ℕ) (s : State) (out : List ℕ) (first taken : Option (List ℕ)) : Type 0 where
  pub good : (rows_of_lines lines).bad ≡ None
  pub number : n ≡ length lines + 1
  pub state : s ≡ (run (rows_of_lines lines).events begun).state
  pub prints : Prints begun tale lines out first taken

-- of these bytes `rest` is not read yet; of the line that has begun no more is kept than shows that it is too long
pub record Within (begun : State) (tale : RowText) (bytes rest kept : List ℕ) (n : ℕ) (s : State) (out : List ℕ) (first taken : Option (List ℕ)) : Type 0 where
  pub lines : List (List ℕ)
  pub line : List ℕ
  pub going : Going begun tale lines n s out first taken
  pub kept_is : kept ≡ take 1048577 line
  pub whole : whole_lines bytes ≡ lines ++ whole_from line rest
  pub last : last_from [] bytes ≡ last_from line rest

-- bytes of a chunk behind those that were read before it: the whole lines of those were played, and maybe more
pub record WithinChunk (begun : State) (tale : RowText) (before bytes rest kept : List ℕ) (n : ℕ) (s : State) (out : List ℕ) (first taken : Option (List ℕ)) : Type 0 where
  pub within : Within begun tale bytes rest kept n s out first taken
  pub more : List (List ℕ)
  pub lines_are : within.lines ≡ whole_lines before ++ more

-- why a run halts at a line, by the lines that were read, and those that were whole before the last read
abbrev pub Halts : State → RowText → Halt → List (List ℕ) → List (List ℕ) → List ℕ → Option (List ℕ) → Option (List ℕ) → Type 0
Halts begun tale (halt.Bad n) earlier lines out first taken = ((rows_of_lines lines).bad ≡ Some n) × Prints begun tale lines out first taken
Halts begun tale halt.Memory earlier lines out first taken = PrintsFirst begun tale earlier lines out first taken
Halts begun tale halt.Read earlier lines out first taken = ⊥
Halts begun tale halt.Write earlier lines out first taken = WrotePrefix first (told begun tale lines) taken

-- more bytes are read behind those before: their whole lines are played, or the run halts
abbrev pub ChunkGoes : State → RowText → Result (Unit {0}) Halt → List ℕ → List ℕ → List ℕ → ℕ → State → List ℕ → Option (List ℕ) → Option (List ℕ) → Type 0
ChunkGoes begun tale (Ok u) before bytes kept n s out first taken = Within begun tale bytes [] kept n s out first taken
ChunkGoes begun tale (Err h) before bytes kept n s out first taken = Halts begun tale h (whole_lines before) (lines_read false bytes) out first taken

-- the lines of a source are played to the end, or the run halts
abbrev pub Plays : State → RowText → Result (Unit {0}) Halt → Bool → List (List ℕ) → List (List ℕ) → List ℕ → Option (List ℕ) → Option (List ℕ) → Type 0
Plays begun tale (Ok u) ended earlier lines out first taken = (ended ≡ true) × ((rows_of_lines lines).bad ≡ None) × Prints begun tale lines out first taken
Plays begun tale (Err (halt.Bad n)) ended earlier lines out first taken = Halts begun tale (halt.Bad n) earlier lines out first taken
Plays begun tale (Err halt.Memory) ended earlier lines out first taken = Halts begun tale halt.Memory earlier lines out first taken
Plays begun tale (Err halt.Read) ended earlier lines out first taken = (ended ≡ false) × ((rows_of_lines lines).bad ≡ None) × Prints begun tale lines out first taken
Plays begun tale (Err halt.Write) ended earlier lines out first taken = Halts begun tale halt.Write earlier lines out first taken

pub record PlaysRead (begun : State) (tale : RowText) (result : Result (Unit {0}) Halt) (answers answers' : Known) (ends ends' : ℕ) (out : List ℕ) (first taken : Option (List ℕ)) : Type 0 where
  pub more : List Answer
  pub answers_are : AllAnswers answers answers' more
  pub whole : nat_lt ends ends' ≡ true → NoneLeft answers'
  pub plays : Plays begun tale result (nat_lt ends ends') (earlier_lines more) (lines_read (nat_lt ends ends') (given more)) out first taken

-- the reads so far gave bytes, and their whole lines were played
pub record ReadSoFar (begun : State) (tale : RowText) (answers answers' : Known) (kept : List ℕ) (n : ℕ) (s : State) (out : List ℕ) (first taken : Option (List ℕ)) : Type 0 where
  pub more : List Answer
  pub answers_are : AllAnswers answers answers' more
  pub within : Within begun tale (given more) [] kept n s out first taken

-- FAULTS

-- a write failed exactly where the run halts for it
abbrev pub WritesFail : Result (Unit {0}) Halt → ℕ → Type 0
WritesFail (Ok u) failures = failures ≡ 0
WritesFail (Err (halt.Bad n)) failures = failures ≡ 0
WritesFail (Err halt.Memory) failures = failures ≡ 0
WritesFail (Err halt.Read) failures = failures ≡ 0
WritesFail (Err halt.Write) failures = 0 < failures

-- what the last read answered, of at most so many
abbrev pub ReadsFail : (most : ℕ) → Result (Unit {0}) Halt → (reads ends ends' failures failures' : ℕ) → Type 0
ReadsFail most (Ok u) reads ends ends' failures failures' = (ends' ≡ ends + 1) × (failures' ≡ failures)
ReadsFail most (Err (halt.Bad n)) reads ends ends' failures failures' = failures' ≡ failures
ReadsFail most (Err halt.Memory) reads ends ends' failures failures' = failures' ≡ failures
ReadsFail most (Err halt.Read) reads ends ends' failures failures' = (ends' ≡ ends) × ((failures' ≡ failures + 1) ⊎ ((failures' ≡ failures) × (reads ≡ most)))
ReadsFail most (Err halt.Write) reads ends ends' failures failures' = failures' ≤ failures + 1

-- how a run ends that halted so
abbrev pub ended_so : Result (Unit {0}) Halt → Ended
ended_so (Ok u) = Done
ended_so (Err (halt.Bad n)) = BadRow n
ended_so (Err halt.Memory) = NoMemory
ended_so (Err halt.Read) = ReadFault
ended_so (Err halt.Write) = WriteFault

-- the source's end was read, and all lines were played, none of which is bad
pub record PlayedAll (begun : State) (answers answers' : Known) (s : State) : Type 0 where
  pub more : List Answer
  pub answers_are : AllAnswers answers answers' more
  pub whole : NoneLeft answers'
  pub good : (rows_of_lines (lines_read true (given more))).bad ≡ None
  pub state : s ≡ (run (rows_of_lines (lines_read true (given more))).events begun).state
