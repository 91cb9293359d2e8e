-- QUESTIONS in an event file: comments that ask about the switch at that place.
use Rattle.std.specs.Prelude.{ℕ, List, [], ◌∷◌, ◌++◌, drop, take, length, nat_lt, codes, Option, Some, None, Result, Ok, Err, if◌then◌else◌}
use Rattle.std.specs.Str.{bytes_eq}
use Rattle.hex.specs.Hex.{encode_lower}
use Rattle.of_frame_words.specs.{Frames.ReceivedFrame, Frames.frame_in_words, Said.WordRefusal}
use Rattle.of_switch.specs.State.{State}
use Rattle.of_replay.specs.{Lexing.first_word, Lexing.after_first_word, Lexing.word_number, Lexing.hex_bytes, FileRuns.switch_text, RowTexts.RowText}
use Rattle.of_trace.specs.{declared.form.Output.TheVariants.Lines, declared.form.Form.TheVariants.Plain, declared.form.Form.TheVariants.Explained, declared.form.Form.TheVariants.Why}
use Rattle.of_trace.specs.{declared.form.Asked.TheVariants.All, Files.trace_on}
use Rattle.of_explain.specs.{Explained.frame_notes, declared.question.Manner.Manner, declared.question.Manner.TheVariants.Words, declared.question.Manner.TheVariants.Steps}
use Rattle.of_explain.specs.declared.question.Question.{Question as Asked}
use Rattle.of_explain.specs.declared.question.Question.TheVariants as asked

-- what is asked
pub data Question : Type 0 where
  -- the groups and flow tables
  Flows : Question
  -- what a frame would do that is received next
  Next : (manner : Manner) → (port : ℕ) → (frame : List ℕ) → Question
  -- the frame that words say
  FrameOf : (words : List ℕ) → Question
  -- nothing: the end of the answer says that the lines before were played
  Mark : Question
  Unknown : Question

-- `PORT HEX`
abbrev pub next_question_of : Manner → Option ℕ → Option (List ℕ) → Question
next_question_of manner (Some port) (Some frame) = Next manner port frame
next_question_of manner port frame = Unknown

abbrev pub frame_in_word : Option (List ℕ) → Option (List ℕ)
frame_in_word None = None
frame_in_word (Some word) = hex_bytes word

unfoldable pub next_in : Manner → List ℕ → Question
next_in manner words = next_question_of manner (word_number (first_word words)) (frame_in_word (after_first_word words))

-- how that is told
abbrev pub manner_named : List ℕ → Option Manner
manner_named name = if bytes_eq name (codes "frame") then Some Words
    else (if bytes_eq name (codes "trace") then Some (Steps Plain)
    else (if bytes_eq name (codes "explain") then Some (Steps Explained) else (if bytes_eq name (codes "why") then Some (Steps (Why All)) else None)))

abbrev pub next_question_by : Option Manner → List ℕ → Question
next_question_by None words = Unknown
next_question_by (Some manner) words = next_in manner words

-- `flows`, `mark`, `bytes` and words, or `frame`, `trace`, `explain` or `why` and a frame
abbrev pub question_named : List ℕ → Option (List ℕ) → Question
question_named name None = if bytes_eq name (codes "flows") then Flows else (if bytes_eq name (codes "mark") then Mark else Unknown)
question_named name (Some words) = if bytes_eq name (codes "bytes") then FrameOf words else next_question_by (manner_named name) words

unfoldable pub question_of : List ℕ → Question
question_of words = question_named (first_word words) (after_first_word words)

-- the same, where the frame or the words are beside it
abbrev pub with_frame : List ℕ → Asked → Question
with_frame frame asked.Flows = Flows
with_frame frame (asked.Next manner port) = Next manner port frame
with_frame frame asked.FrameOf = FrameOf frame
with_frame frame asked.Mark = Mark
with_frame frame asked.Unknown = Unknown

-- a comment that begins with `#? ` is a question
abbrev pub question_words : List ℕ → Option (List ℕ)
question_words line = if nat_lt (length line) 3 then None else (if bytes_eq (take 3 line) (codes "#? ") then Some (drop 3 line) else None)

-- its digits, or the word that is refused
abbrev pub frame_line : Result ReceivedFrame WordRefusal → List ℕ
frame_line (Ok r) = encode_lower r.frame ++ 10 ∷ []
frame_line (Err refusal) = codes "no frame: " ++ refusal.word ++ 10 ∷ []

-- THE ANSWER of a switch
abbrev pub answer : State → Question → List ℕ
answer s Flows = switch_text s
answer s (Next (Steps form) port frame) = trace_on (Lines form) port frame s
answer s (Next Words port frame) = frame_notes port frame s
answer s (FrameOf words) = frame_line (frame_in_words 1 words)
answer s Mark = []
answer s Unknown = codes "unknown question" ++ 10 ∷ []

-- and a line that ends it
unfoldable pub answered_question : State → List ℕ → List ℕ
answered_question s words = answer s (question_of words) ++ codes "?" ++ 10 ∷ []

-- WHAT IS PRINTED for a row: for a question its answer, and for all else what is printed without questions
abbrev pub comment_text : Option (List ℕ) → RowText → ℕ → State → List ℕ → List ℕ
comment_text (Some words) tale n s line = answered_question s words
comment_text None tale n s line = tale n s line None

abbrev pub with_answers : RowText → RowText
with_answers tale n s line None = comment_text (question_words line) tale n s line
with_answers tale n s line (Some event) = tale n s line (Some event)
