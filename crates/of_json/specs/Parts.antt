-- PARTS OF JSON (RFC 8259). Strings have no characters that need an escape.
use Rattle.std.specs.Prelude.{ℕ, Bool, List, [], ◌∷◌, ◌++◌, codes, decimal, if◌then◌else◌}
use Rattle.std.specs.List.{flat_map}
use Rattle.of_layers.specs.Fields.{name_of}
use Rattle.of_oxm.specs.declared.match_field.MatchField.{MatchField}
use Rattle.of_values.specs.Values.{value_words}

-- ---- values: 34 is a quotation mark, 44 a comma, 58 a colon, 91 and 93 are brackets, 123 and 125 braces

abbrev pub quoted : List ℕ → List ℕ
quoted text = 34 ∷ text ++ 34 ∷ []

abbrev pub key : List ℕ → List ℕ
key name = quoted name ++ 58 ∷ []

abbrev pub truth : Bool → List ℕ
truth b = if b then codes "true" else codes "false"

-- items with commas between them
abbrev pub listed : {A : Type 0} → (A → List ℕ) → List A → List ℕ
listed text [] = []
listed text (x ∷ xs) = text x ++ flat_map (λ y. 44 ∷ text y) xs

-- further members of an object
unfoldable pub number_member : List ℕ → ℕ → List ℕ
number_member name n = 44 ∷ key name ++ decimal n

unfoldable pub text_member : List ℕ → List ℕ → List ℕ
text_member name text = 44 ∷ key name ++ quoted text

unfoldable pub truth_member : List ℕ → Bool → List ℕ
truth_member name b = 44 ∷ key name ++ truth b

-- the first members of a document: the version of its form, and the command that printed it
unfoldable pub document_head : List ℕ → List ℕ
document_head command = key (codes "version") ++ codes "1," ++ key (codes "command") ++ quoted command

-- ---- a match: an object with a member for each field, whose value is in words

unfoldable pub match_member : MatchField → List ℕ
match_member e = key (name_of e.field) ++ quoted (value_words e.field e.value e.mask)

unfoldable pub match_object : List MatchField → List ℕ
match_object fields = 123 ∷ listed match_member fields ++ 125 ∷ []
