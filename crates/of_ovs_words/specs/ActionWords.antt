-- THE WORDS FOR ACTIONS AND INSTRUCTIONS (ovs-actions(7)), the rows of the table in the code: what each does.
use Rattle.std.specs.{Prelude.ℕ, Prelude.List, Prelude.Option, Prelude.find, Str.str_eq_ignore_ascii_case}
use Rattle.of_wire.specs.Parts.{keyword}
use Rattle.of_ovs_words.specs.{declared.action_word.ActionWord.ActionWord, declared.action_word.TheConstants.ACTION_WORDS}

-- the word of a text, in any case
unfoldable pub action_named : List ℕ → Option ActionWord
action_named text = find (λ w. str_eq_ignore_ascii_case (keyword w.text) text) ACTION_WORDS
