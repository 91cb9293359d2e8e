-- THE PARTS OF A TEXT, which a separator divides.
use Rattle.std.specs.Prelude.{ℕ, zero, suc, ◌+◌, ◌==◌, List, take, drop, position, Option, Some, None}

-- the place of the first separator, and the bytes before it, or all
abbrev pub divided : ℕ → List ℕ → Option ℕ
divided separator text = position (λ byte. byte == separator) text

abbrev pub before_place : List ℕ → Option ℕ → List ℕ
before_place text None = text
before_place text (Some place) = take place text

-- the same of what is behind it
abbrev pub behind_place : (List ℕ → Option (List ℕ)) → List ℕ → Option ℕ → Option (List ℕ)
behind_place next text None = None
behind_place next text (Some place) = next (drop (place + 1) text)

-- the part with a number, from 0 on
abbrev pub nth_part : ℕ → ℕ → List ℕ → Option (List ℕ)
nth_part separator zero text = Some (before_place text (divided separator text))
nth_part separator (suc n) text = behind_place (nth_part separator n) text (divided separator text)

abbrev pub part_in : ℕ → ℕ → Option (List ℕ) → Option (List ℕ)
part_in separator n None = None
part_in separator n (Some text) = nth_part separator n text

-- the word in a row of a table, which spaces fill up
abbrev pub keyword : List ℕ → List ℕ
keyword padded = before_place padded (divided 32 padded)
