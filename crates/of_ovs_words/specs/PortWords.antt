-- THE NAMES OF RESERVED PORTS (ovs-ofctl(8)), the rows of the table in the code: the number of each in OpenFlow 1.3.5 (7.2.1), if this switch has it.
use Rattle.std.specs.{Prelude.ℕ, Prelude.List, Prelude.Option, Prelude.find, Str.str_eq_ignore_ascii_case}
use Rattle.of_wire.specs.Parts.{keyword}
use Rattle.of_ovs_words.specs.{declared.port_word.PortWord.PortWord, declared.port_word.TheConstants.PORT_WORDS}

-- the word of a text, in any case
unfoldable pub port_word_named : List ℕ → Option PortWord
port_word_named text = find (λ w. str_eq_ignore_ascii_case (keyword w.text) text) PORT_WORDS
