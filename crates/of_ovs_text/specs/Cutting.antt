-- WORDS, ONE AFTER THE OTHER.
use Rattle.std.specs.Prelude.{ℕ, List, Option, Some, None}
use Rattle.of_ovs_words.specs.Words.{after_word, word_in}
use Rattle.of_ovs_lines.specs.LineContents.{trimmed}

abbrev pub leading_word : List ℕ → List ℕ
leading_word text = word_in 0 (trimmed text)

-- without white space before it
abbrev pub after_leading : List ℕ → List ℕ
after_leading text = trimmed (after_word 0 (trimmed text))

-- the command that the first word is, and the words behind it; if it is none, the usual command, and all words
abbrev pub behind_command : {C : Type 0} → C → List ℕ → Option C → C × List ℕ
behind_command usual text (Some command) = (command, after_leading text)
behind_command usual text None = (usual, text)
