-- NOTES: lines after four spaces, below a row.
use Rattle.std.specs.Prelude.{ℕ, List, ◌∷◌, ◌++◌, length, codes, decimal}
use Rattle.of_text.specs.Lines.{note}

-- words and a number
abbrev pub with_number : List ℕ → ℕ → List ℕ
with_number words n = words ++ 32 ∷ decimal n

-- how many bytes there are
unfoldable pub size_words : ℕ → List ℕ
size_words n = with_number (codes ",") n ++ codes " bytes"

unfoldable pub port_and_size : List ℕ → ℕ → List ℕ → List ℕ
port_and_size words port bytes = with_number words port ++ size_words (length bytes)

abbrev pub number_note : List ℕ → ℕ → List ℕ → List ℕ
number_note words n more = note (with_number words n ++ more)
