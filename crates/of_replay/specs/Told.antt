-- What is known of what a source answered and of what a sink took.
use Rattle.std.specs.Prelude.{◌≡◌, ℕ, ◌<◌, ◌≤◌, ◌++◌, List, [], ◌∷◌, take, Option}
use Rattle.std.specs.{List.flat_map, Io.KnownBytes.Consumes, Io.KnownBytes.IsAtEnd}
use Rattle.of_replay.specs.{declared.io.Reading.Reading, declared.io.Writing.Writing}
use Rattle.of_replay.specs.declared.io.Reading.TheVariants as reading
use Rattle.of_replay.specs.declared.io.Writing.TheVariants as writing

-- what one read answered
pub data Answer : Type 0 where
  Gave : (bytes : List ℕ) → Answer
  Idle : Answer
  Ended : Answer
  Failed : Answer

-- the answer, where the buffer is as the read left it
abbrev pub answer_of : Reading → List ℕ → Answer
answer_of (reading.Bytes n) buffer = Gave (take n buffer)
answer_of reading.Nothing buffer = Idle
answer_of reading.End buffer = Ended
answer_of reading.Fault buffer = Failed

-- the bytes that answers gave
abbrev pub answer_bytes : Answer → List ℕ
answer_bytes (Gave bytes) = bytes
answer_bytes other = []

abbrev pub given : List Answer → List ℕ
given answers = flat_map answer_bytes answers

-- what is known of a source: all that its reads answered; or the bytes that it has left, as far as those are known
pub data Known : Type 0 where
  Told : (answers : List Answer) → Known
  Left : (bytes : Option (List ℕ)) → Known

-- a read answered so: that is the last answer; or the bytes that were left began with what it gave, and lost that
abbrev pub Answers : Known → Known → Answer → Type 0
Answers (Told before) (Told after) answer = after ≡ before ++ answer ∷ []
Answers (Left before) (Left after) answer = Consumes before after (answer_bytes answer)
Answers before after answer = ⊥

-- no byte is known to be left
abbrev pub NoneLeft : Known → Type 0
NoneLeft (Told answers) = Unit {0}
NoneLeft (Left bytes) = IsAtEnd bytes

abbrev pub read_count : Reading → ℕ
read_count (reading.Bytes n) = n
read_count other = 0

abbrev pub read_ends : Reading → ℕ
read_ends reading.End = 1
read_ends other = 0

abbrev pub read_faults : Reading → ℕ
read_faults reading.Fault = 1
read_faults other = 0

-- a read gives one byte at least, and no more than fit
abbrev pub IsReading : Reading → ℕ → Type 0
IsReading (reading.Bytes n) room = (0 < n) × (n ≤ room)
IsReading other room = Unit {0}

abbrev pub write_count : Writing → ℕ
write_count (writing.Wrote n) = n
write_count writing.Fault = 0

abbrev pub write_faults : Writing → ℕ
write_faults (writing.Wrote n) = 0
write_faults writing.Fault = 1

-- a write takes one byte at least, and no more than there are
abbrev pub IsWriting : Writing → ℕ → Type 0
IsWriting (writing.Wrote n) len = (0 < n) × (n ≤ len)
IsWriting writing.Fault len = Unit {0}
