-- THE WORDS FOR MATCH FIELDS (ovs-fields(7)), the rows of the table in the code: the text of each, the field that it is for, and how its value is written.
use Rattle.std.specs.Prelude.{ℕ, ◌==◌, Bool, false, List, [], Option, find}
use Rattle.std.specs.{Option.option_map_or, Str.bytes_eq}
use Rattle.of_wire.specs.Parts.{keyword}
use Rattle.of_layers.specs.{declared.field.Field.Field, Fields.number_of}
use Rattle.of_ovs_words.specs.{declared.field_word.FieldWord.FieldWord, declared.field_word.TheConstants.FIELD_WORDS, Settings.field_for}

-- the word of a text
unfoldable pub field_word_named : List ℕ → Option FieldWord
field_word_named text = find (λ w. bytes_eq (keyword w.text) text) FIELD_WORDS

-- the word is for that field, if no other setting says more
abbrev pub is_for_field : Field → FieldWord → Bool
is_for_field f word = option_map_or (λ g. number_of g == number_of f) (field_for word.target []) false

-- the word that is written for a field: the first one that is for it
unfoldable pub word_for : Field → Option FieldWord
word_for f = find (is_for_field f) FIELD_WORDS

abbrev pub text_for : Field → List ℕ
text_for f = option_map_or (λ w. keyword w.text) (word_for f) []
