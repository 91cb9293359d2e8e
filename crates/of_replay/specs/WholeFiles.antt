-- How a file is read whole, and which of its lines no file may have.
use Rattle.std.specs.Prelude.{◌≡◌, ◌⊎◌, ◌↔◌, ◌<◌, ◌≤◌, ℕ, ◌+◌, Bool, true, false, nat_lt, List, [], ◌∷◌, Option, Some, None, Result, Ok, Err, if◌then◌else◌}
use Rattle.of_replay.specs.declared.event_file.Ended.{Ended}
use Rattle.of_replay.specs.{declared.event_file.Ended.TheVariants.Done, declared.event_file.Ended.TheVariants.ReadFault, declared.event_file.Ended.TheVariants.WriteFault, declared.halt.Halt.Halt}
use Rattle.of_replay.specs.{Told.Answer, Told.Known, Told.NoneLeft, Told.given, Transfer.AllAnswers, Lexing.is_line}
use Rattle.of_replay.specs.declared.halt.Halt.TheVariants as halt
use Rattle.of_text.specs.Lines.{lines_of}

-- READING

-- all bytes of the source and its end were read, or not
abbrev pub ReadsAll : Result (Unit {0}) Halt → Bool → List ℕ → List ℕ → Type 0
ReadsAll (Ok u) ended file bytes = (ended ≡ true) × (file ≡ bytes)
ReadsAll (Err (halt.Bad n)) ended file bytes = ⊥
ReadsAll (Err halt.Memory) ended file bytes = Unit {0}
ReadsAll (Err halt.Read) ended file bytes = ended ≡ false
ReadsAll (Err halt.Write) ended file bytes = ⊥

pub record ReadsFile (result : Result (Unit {0}) Halt) (answers answers' : Known) (ends ends' : ℕ) (file : List ℕ) : Type 0 where
  pub more : List Answer
  pub answers_are : AllAnswers answers answers' more
  pub whole : nat_lt ends ends' ≡ true → NoneLeft answers'
  pub is : ReadsAll result (nat_lt ends ends') file (given more)

-- LINES

-- the first line that no file may have, where n lines come before these
abbrev pub unreadable : ℕ → List (List ℕ) → Option ℕ
unreadable n [] = None
unreadable n (line ∷ lines) = if is_line line then unreadable (n + 1) lines else Some (n + 1)

abbrev pub bad_line : List ℕ → Option ℕ
bad_line file = unreadable 0 (lines_of file)

-- FAULTS OF RUNS over the rows of a file, of at most so many reads, by how many reads there were, found the end and failed, and how many writes failed
pub record RunFaults (most : ℕ) (result : Ended) (reads ends ends' failures failures' writes : ℕ) : Type 0 where
  -- no read and no write failed, and the end was read
  pub done : result ≡ Done → (failures' ≡ failures) × (ends' ≡ ends + 1) × (writes ≡ 0)
  pub few : reads ≤ most
  -- one read fails at most
  pub once : failures' ≤ failures + 1
  -- a read failed, or so many reads found no end
  pub read_fault : result ≡ ReadFault → (failures < failures') ⊎ ((reads ≡ most) × (ends' ≡ ends))
  -- what was read before is written after it, and that may fail, too
  pub failed_read : failures < failures' → (result ≡ ReadFault) ⊎ (result ≡ WriteFault)
  -- exactly where a write failed
  pub write_fault : (result ≡ WriteFault) ↔ (0 < writes)

-- FAULTS OF FILES, by how many reads there were, found the end and failed, and how many writes failed
pub record Faults (result : Ended) (reads ends ends' failures failures' writes : ℕ) : Type 0 where
  -- no read and no write failed, and the end was read
  pub done : result ≡ Done → (failures' ≡ failures) × (ends' ≡ ends + 1) × (writes ≡ 0)
  -- one read fails at most
  pub once : failures' ≤ failures + 1
  -- a read failed, or a million reads found no end
  pub read_fault : result ≡ ReadFault → (failures < failures') ⊎ ((reads ≡ 1000000) × (ends' ≡ ends))
  pub failed_read : failures < failures' → result ≡ ReadFault
  -- exactly where a write failed
  pub write_fault : (result ≡ WriteFault) ↔ (0 < writes)
