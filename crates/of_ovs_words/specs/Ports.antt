-- PORTS IN WORDS: a decimal number, or the name of a reserved port.
use Rattle.std.specs.Prelude.{ℕ, ◌^◌, ◌&&◌, nat_le, List, Option, Some, None, Result, Ok, Err, if◌then◌else◌}
use Rattle.of_ovs_words.specs.{declared.why.Why.Why, declared.why.Why.TheVariants.Unknown, declared.why.Why.TheVariants.Value, declared.port_word.PortWord.PortWord, Numbers.decimal_number}
use Rattle.of_ovs_words.specs.{Outcomes.value_or_why, PortWords.port_word_named}

-- a port without a number: reserved, or else named
abbrev pub port_named : Why → Option PortWord → Result ℕ Why
port_named why (Some word) = value_or_why Unknown word.number
port_named why None = Err why

-- the numbers of 16 bits of reserved ports, which ovs-ofctl reads as those of 32 bits (OpenFlow 1.0, 5.3.1): their names are to be written
abbrev pub unless_reserved : ℕ → Result ℕ Why
unless_reserved number = if nat_le 0xff00 number && nat_le number 0xffff then Err Value else Ok number

abbrev pub port_numbered : Why → List ℕ → Option ℕ → Result ℕ Why
port_numbered why word (Some number) = unless_reserved number
port_numbered why word None = port_named why (port_word_named word)

-- the number of a port; this is why, where the word is neither a number nor reserved
abbrev pub port_in : Why → List ℕ → Result ℕ Why
port_in why word = port_numbered why word (decimal_number (2 ^ 32) word)
