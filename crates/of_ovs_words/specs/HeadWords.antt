-- THE WORDS FOR A FLOW BESIDE ITS MATCH AND ITS ACTIONS (ovs-ofctl(8)), the rows of the table in the code. Statistics are passed over, and so are the command `add` and flags that only concern the adding of a flow.
use Rattle.std.specs.{Prelude.ℕ, Prelude.List, Prelude.Option, Prelude.find, Str.bytes_eq}
use Rattle.of_wire.specs.Parts.{keyword}
use Rattle.of_ovs_words.specs.{declared.head_word.HeadWord.HeadWord, declared.head_word.TheConstants.HEAD_WORDS}

-- the word of a text
unfoldable pub head_named : List ℕ → Option HeadWord
head_named text = find (λ w. bytes_eq (keyword w.text) text) HEAD_WORDS
