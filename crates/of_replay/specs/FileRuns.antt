-- WHAT A FILE IS READ AS, AND HOW A RUN ENDS that reads a file and writes a text of what it read.
use Rattle.std.specs.Prelude.{◌≡◌, ℕ, Bool, true, false, nat_lt, List, Option, Some, None, Result, Ok, Err}
use Rattle.std.specs.Io.KnownBytes.{Appends}
use Rattle.of_text.specs.{declared.assembling.TextFault.TextFault, Lines.lines_of, Texts.IsSyntax, First.AreRefusedLines, Configs.Configuration, Configs.EncodeConfig, Configs.config_text}
use Rattle.of_text.specs.declared.assembling.TextFault.TheVariants as fault
use Rattle.of_switch.specs.{State.State, State.start, Runs.run, Loading.config_of}
use Rattle.of_replay.specs.declared.event_file.Ended.TheVariants.{Done, BadRow, Text, ReadFault, WriteFault, NoMemory}
use Rattle.of_replay.specs.{declared.event_file.Ended.Ended, Told.Answer, Told.Known, Told.NoneLeft, Told.given, Transfer.AllAnswers, Transfer.WrotePrefix, Rows.Rows, Rows.rows_of_lines}
use Rattle.of_replay.specs.{Play.lines_read, WholeFiles.bad_line}

-- WHAT A FILE IS READ AS: a value; or there is none, since a line is bad, or since the text has a fault
pub data FileOutcome (A : Type 0) : Type 0 where
  IsValue : (value : A) → FileOutcome A
  IsBad : (line : ℕ) → FileOutcome A
  HasFault : (fault : TextFault) → FileOutcome A

-- by whether the file's end was read, and the bytes that were read
abbrev pub Meaning : Type 0 → Type 1
Meaning A = Bool → List ℕ → FileOutcome A → Type 0

abbrev pub IsTextFault : List ℕ → TextFault → Type 0
IsTextFault file fault.NoMemory = ⊥
IsTextFault file (fault.Syntax n) = IsSyntax (lines_of file) n
IsTextFault file (fault.Refused line code) = AreRefusedLines (lines_of file) line code

-- a flow text, which is read whole, is its configuration
abbrev pub flow_text : Meaning Configuration
flow_text false file outcome = ⊥
flow_text true file (IsValue config) = (bad_line file ≡ None) × EncodeConfig (lines_of file) config
flow_text true file (IsBad n) = bad_line file ≡ Some n
flow_text true file (HasFault f) = (bad_line file ≡ None) × IsTextFault file f

-- the switch after rows: a new one with datapath_id 1, on which their events happened
abbrev pub state_after_rows : Rows → State
state_after_rows rows = (run rows.events (start 1)).state

-- the groups and flows of a switch, as flow text
abbrev pub switch_text : State → List ℕ
switch_text s = config_text (config_of s)

-- an event file is the switch after its rows
abbrev pub event_file : Meaning State
event_file ended file (IsValue s) = (ended ≡ true) × ((rows_of_lines (lines_read ended file)).bad ≡ None) × (s ≡ state_after_rows (rows_of_lines (lines_read ended file)))
event_file ended file (IsBad n) = (rows_of_lines (lines_read ended file)).bad ≡ Some n
event_file ended file (HasFault f) = ⊥

-- HOW READING ENDS: at a fault the bytes before it are nothing yet
abbrev pub IsRead : {A : Type 0} → Meaning A → Result A Ended → Bool → List ℕ → Type 0
IsRead is (Ok value) ended file = is ended file (IsValue value)
IsRead is (Err Done) ended file = ⊥
IsRead is (Err (BadRow n)) ended file = is ended file (IsBad n)
IsRead is (Err (Text f)) ended file = is ended file (HasFault f)
IsRead {A} is (Err ReadFault) ended file = (ended ≡ false) × ((outcome : FileOutcome A) → is ended file outcome → ⊥)
IsRead is (Err WriteFault) ended file = ⊥
IsRead is (Err NoMemory) ended file = Unit {0}

-- from what a source answered
pub record ReadsWhole {A : Type 0} (is : Meaning A) (result : Result A Ended) (answers answers' : Known) (ends ends' : ℕ) : Type 0 where
  pub more : List Answer
  pub answers_are : AllAnswers answers answers' more
  pub whole : nat_lt ends ends' ≡ true → NoneLeft answers'
  pub is_read : IsRead is result (nat_lt ends ends') (given more)

-- HOW WRITING ENDS: a text is written, or a prefix of it; or nothing, since there was no memory for it
abbrev pub Writes : (List ℕ → Type 0) → Ended → Option (List ℕ) → Option (List ℕ) → Type 0
Writes IsText Done old new = (text : List ℕ) × IsText text × Appends old new text
Writes IsText WriteFault old new = (text : List ℕ) × IsText text × WrotePrefix old text new
Writes IsText NoMemory old new = new ≡ old
Writes IsText other old new = ⊥

-- of what was read; nothing of a file that is none
abbrev pub WritesOf : {A : Type 0} → (A → List ℕ → Type 0) → Result A Ended → Ended → Option (List ℕ) → Option (List ℕ) → Type 0
WritesOf IsText (Ok value) ended old new = Writes (IsText value) ended old new
WritesOf IsText (Err read) ended old new = (ended ≡ read) × (new ≡ old)

-- HOW A RUN ENDS, from what a source answered to what a sink took
pub record Runs {A : Type 0} (is : Meaning A) (IsText : A → List ℕ → Type 0) (ended : Ended) (answers answers' : Known) (ends ends' : ℕ) (taken taken' : Option (List ℕ)) : Type 0 where
  pub read : Result A Ended
  pub reads : ReadsWhole is read answers answers' ends ends'
  pub writes : WritesOf IsText read ended taken taken'

-- a text of what a whole file is read as was added to what a writer held
abbrev pub TextOf : {A : Type 0} → Meaning A → (A → List ℕ → Type 0) → List ℕ → Option (List ℕ) → Option (List ℕ) → Type 0
TextOf {A} is IsText file old new = (value : A) × is true file (IsValue value) × ((text : List ℕ) × IsText value text × Appends old new text)

-- the text that a function gives
abbrev pub is_text : {A : Type 0} → (A → List ℕ) → A → List ℕ → Type 0
is_text text_of value text = text ≡ text_of value

-- Done where something was read
abbrev pub ended_as : {A : Type 0} → Result A Ended → Ended
ended_as (Ok value) = Done
ended_as (Err ended) = ended
