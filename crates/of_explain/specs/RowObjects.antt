-- AN EVENT FILE EXPLAINED AS JSON LINES: for each line that is not empty an object in a line of its own, with the number of the line, the line, and the
-- lines that are printed below it in words.
use Rattle.std.specs.Prelude.{ℕ, List, [], ◌∷◌, ◌++◌, codes, decimal}
use Rattle.of_text.specs.Lines.{lines_of}
use Rattle.of_json.specs.{Parts.key, Parts.listed, Strings.array_member, Strings.line_string, Strings.string_member}
use Rattle.of_replay.specs.RowTexts.{RowText}
use Rattle.of_explain.specs.Explained.{notes_below}

-- `{"line":3,"row":"connect","notes":["to the controller: HELLO xid 0, 16 bytes"]}`: notes without the four spaces before each
unfoldable pub row_object : ℕ → List ℕ → List ℕ → List ℕ
row_object n line notes =
    123 ∷ key (codes "line") ++ decimal n ++ string_member (codes "row") line ++ array_member (codes "notes") (listed (line_string 4) (lines_of notes)) ++ 125 ∷ 10 ∷ []

-- an empty line has none
abbrev pub object_unless_empty : ℕ → List ℕ → List ℕ → List ℕ
object_unless_empty n [] notes = []
object_unless_empty n (b ∷ bs) notes = row_object n (b ∷ bs) notes

-- THE TALE: the object of the line and of the very notes that are printed in words
abbrev pub explained_json : RowText
explained_json n s line row = object_unless_empty n line (notes_below s row)
