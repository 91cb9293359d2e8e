-- WHICH KEYWORDS ARE REFUSED, and in how many lines.
use Rattle.std.specs.Prelude.{ℕ, Bool, List, [], ◌∷◌, ◌++◌, filter, length, if◌then◌else◌}
use Rattle.std.specs.{List.fold, List.list_any, Str.bytes_eq}
use Rattle.of_ovs_words.specs.Words.{word_name}
use Rattle.of_import.specs.declared.parsed_lines.LineFaults.{LineFaults}
use Rattle.of_ovs_lines.specs.declared.word_fault.WordFault.{WordFault}

-- the name of a word that is refused
abbrev pub keyword_of_fault : WordFault → List ℕ
keyword_of_fault f = word_name f.word.items

abbrev pub with_keyword : List (List ℕ) → WordFault → List (List ℕ)
with_keyword names f = if list_any (λ name. bytes_eq name (keyword_of_fault f)) names then names else names ++ keyword_of_fault f ∷ []

abbrev pub keywords_with_line : List (List ℕ) → LineFaults → List (List ℕ)
keywords_with_line names l = fold with_keyword names l.faults.items

-- EACH KEYWORD ONCE, in the order of the lines
unfoldable pub keywords_in : List LineFaults → List (List ℕ)
keywords_in faults = fold keywords_with_line [] faults

abbrev pub has_keyword : List ℕ → LineFaults → Bool
has_keyword name l = list_any (λ f. bytes_eq (keyword_of_fault f) name) l.faults.items

-- how many lines have it
unfoldable pub lines_with : List LineFaults → List ℕ → ℕ
lines_with faults name = length (filter (has_keyword name) faults)
