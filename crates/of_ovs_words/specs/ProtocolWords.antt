-- THE WORDS FOR PROTOCOLS (ovs-fields(7)), the rows of the table in the code: the ETH_TYPE of each, and the IP_PROTO.
use Rattle.std.specs.{Prelude.ℕ, Prelude.List, Prelude.Option, Prelude.find, Str.bytes_eq}
use Rattle.of_wire.specs.Parts.{keyword}
use Rattle.of_ovs_words.specs.{declared.protocol_word.ProtocolWord.ProtocolWord, declared.protocol_word.TheConstants.PROTOCOL_WORDS}

-- the word of a text
unfoldable pub protocol_named : List ℕ → Option ProtocolWord
protocol_named text = find (λ w. bytes_eq (keyword w.text) text) PROTOCOL_WORDS
