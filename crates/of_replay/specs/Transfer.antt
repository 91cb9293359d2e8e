-- What was read from a source, and what was written to a sink.
use Rattle.std.specs.Prelude.{◌≡◌, ℕ, List, ◌++◌, Option}
use Rattle.std.specs.Io.KnownBytes.{Appends, Consumes}
use Rattle.of_replay.specs.Told.{Answer, Known, Told, Left, given}

-- reads answered so, one after the other
abbrev pub AllAnswers : Known → Known → List Answer → Type 0
AllAnswers (Told before) (Told after) answers = after ≡ before ++ answers
AllAnswers (Left before) (Left after) answers = Consumes before after (given answers)
AllAnswers before after answers = ⊥

-- a prefix of the text was written
abbrev pub WrotePrefix : Option (List ℕ) → List ℕ → Option (List ℕ) → Type 0
WrotePrefix old text new = (front : List ℕ) × (rest : List ℕ) × (front ++ rest ≡ text) × Appends old new front

-- only bytes were added
abbrev pub Grows : Option (List ℕ) → Option (List ℕ) → Type 0
Grows old new = (more : List ℕ) × Appends old new more
