-- What a source and a sink in memory answer, and what the source answered.
use Rattle.std.specs.Prelude.{◌≡◌, ℕ, ◌+◌, ◌-◌, ◌<◌, ◌≤◌, ◌⊎◌, min, List, [], ◌∷◌, ◌++◌, take, drop, length, replicate, vec_len, vec_capacity}
use Rattle.of_replay.specs.{declared.io.Reading.Reading, declared.io.Writing.Writing, declared.memory.MemorySource.MemorySource, declared.memory.MemorySink.MemorySink}
use Rattle.of_replay.specs.Told.{Answer, Gave, Ended, Failed}
use Rattle.of_replay.specs.declared.io.Reading.TheVariants as reading
use Rattle.of_replay.specs.declared.io.Writing.TheVariants as writing

-- bytes in chunks of these lengths
abbrev pub chunks_of : List ℕ → List ℕ → List Answer
chunks_of bytes [] = []
chunks_of bytes (n ∷ lengths) = Gave (take n bytes) ∷ chunks_of (drop n bytes) lengths

-- the chunks, then the ends, then the faults
abbrev pub source_answers : MemorySource → List Answer
source_answers s = chunks_of s.bytes.items s.lengths.items ++ (replicate s.ends Ended ++ replicate s.failures Failed)

-- how many reads there were
abbrev pub reads_of : MemorySource → ℕ
reads_of s = vec_len s.lengths + s.ends + s.failures

-- calls fail from the call `fails_at` on, counted from 1; 0: none fails
abbrev pub CallFails : ℕ → ℕ → Type 0
CallFails fails_at call = (0 < fails_at) × (fails_at ≤ call)

-- a read fails where `fails_at` says so, and only there; before that it gives a chunk of what is left, then the end
abbrev pub IsNext : MemorySource → ℕ → Reading → Type 0
IsNext s room (reading.Bytes n) = (¬ CallFails s.fails_at (reads_of s + 1)) × (n ≡ min s.chunk (min room (length s.bytes.items - s.at)))
IsNext s room reading.Nothing = ⊥
IsNext s room reading.End = (¬ CallFails s.fails_at (reads_of s + 1)) × (s.at ≡ length s.bytes.items)
IsNext s room reading.Fault = CallFails s.fails_at (reads_of s + 1)

-- a write takes a chunk; it fails where `fails_at` says so, and where memory runs out
abbrev pub IsTaking : MemorySink → ℕ → Writing → Type 0
IsTaking s len (writing.Wrote n) = (¬ CallFails s.fails_at (s.writes + 1)) × (n ≡ min s.chunk len)
IsTaking s len writing.Fault = CallFails s.fails_at (s.writes + 1) ⊎ (vec_capacity s.bytes < vec_len s.bytes + min s.chunk len)
