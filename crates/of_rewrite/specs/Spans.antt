-- For contracts inside this crate: words of a frame's bytes that a checksum covers, and the checksum after the bytes changed.
use Rattle.std.specs.Prelude.{◌≡◌, ℕ, zero, suc, ◌+◌, ◌*◌, ◌/◌, ◌%◌, ◌^◌, Bool, not, ◌||◌, ◌==◌, if◌then◌else◌, List, [], ◌∷◌, ◌++◌, slice_set, take, drop}
use Rattle.of_layers.specs.{Bits.bits, Reading.word}
use Rattle.of_rewrite.specs.{Checksum.updated, Checksum.differ, declared.sums.Span.Span, declared.sums.Sum.Sum, declared.sums.Sums.Sums}

-- n words from byte i on
abbrev pub words_at : ℕ → ℕ → List ℕ → List ℕ
words_at zero i s = []
words_at (suc n) i s = word s i ∷ words_at n (i + 2) s

abbrev pub span_words : Span → List ℕ → List ℕ
span_words p s = words_at p.words p.at s

abbrev pub covered_words : Sum → List ℕ → List ℕ
covered_words m s = span_words m.front s ++ span_words m.back s

abbrev pub followed : Sum → List ℕ → List ℕ → Sum
followed m old new = record m { value = updated m.value (covered_words m old) (covered_words m new); differs = m.differs || differ (covered_words m old) (covered_words m new) }

abbrev pub both_followed : Sums → List ℕ → List ℕ → Sums
both_followed m old new = record { header = followed m.header old new; carried = followed m.carried old new }

-- after the change of one word, if it is covered
abbrev pub stepped_sum : Bool → ℕ → ℕ → Sum → Sum
stepped_sum there old new m = if there then record m { value = updated m.value (old ∷ []) (new ∷ []); differs = m.differs || not (old == new) } else m

-- words begin at even bytes
abbrev pub IsEven : Sum → Type 0
IsEven m = (m.front.at % 2 ≡ 0) × (m.back.at % 2 ≡ 0)

abbrev pub AreEven : Sums → Type 0
AreEven m = IsEven m.header × IsEven m.carried

-- bytes with a word written at byte i
abbrev pub with_word : ℕ → ℕ → List ℕ → List ℕ
with_word i w s = slice_set (slice_set s i (w / 256)) (i + 1) (w % 256)

-- bits with n of them, from place p on, overwritten
abbrev pub over_bits : ℕ → ℕ → ℕ → List ℕ → List ℕ
over_bits p n v s = take p s ++ (bits n v ++ drop (p + n) s)

-- a word with the low bits of a value in its middle, with so many bits of it below
abbrev pub part_over_bits : ℕ → ℕ → ℕ → ℕ → ℕ
part_over_bits width below v w = (w / 2 ^ below / 2 ^ width * 2 ^ width + v % 2 ^ width) * 2 ^ below + w % 2 ^ below
