-- STRINGS OF JSON (RFC 8259, 7) with any bytes: a quotation mark and a backslash come after a backslash, and a byte that is no printable character of
-- ASCII is a question mark.
use Rattle.std.specs.Prelude.{ℕ, ◌==◌, ◌||◌, List, [], ◌∷◌, ◌++◌, drop, codes, if◌then◌else◌}
use Rattle.std.specs.{List.flat_map, Global.Vec}
use Rattle.of_ovs_words.specs.Words.{word_name, word_value}
use Rattle.of_json.specs.Parts.{key, listed}
use Rattle.of_values.specs.Origins.{printable}

abbrev pub escaped : ℕ → List ℕ
escaped b = if b == 34 || b == 92 then 92 ∷ b ∷ [] else printable b ∷ []

unfoldable pub string : List ℕ → List ℕ
string text = 34 ∷ flat_map escaped text ++ 34 ∷ []

-- further members of an object: a string, an array of these items, and an array of strings
unfoldable pub string_member : List ℕ → List ℕ → List ℕ
string_member name text = 44 ∷ key name ++ string text

unfoldable pub array_member : List ℕ → List ℕ → List ℕ
array_member name items = 44 ∷ key name ++ 91 ∷ items ++ 93 ∷ []

abbrev pub string_of : Vec ℕ → List ℕ
string_of word = string word.items

-- a line of a text without its first bytes, so many
abbrev pub line_string : ℕ → List ℕ → List ℕ
line_string indent line = string (drop indent line)

-- ---- what a dump counted of a flow: `"counters":{"n_packets":"12","n_bytes":"1008"}`

unfoldable pub counter_member : List ℕ → List ℕ
counter_member word = string (word_name word) ++ 58 ∷ string (word_value word)

unfoldable pub counters_member : List (List ℕ) → List ℕ
counters_member words = 44 ∷ key (codes "counters") ++ 123 ∷ listed counter_member words ++ 125 ∷ []
