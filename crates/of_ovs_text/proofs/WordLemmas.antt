-- Whether words name a table, one word after the other.
use Rattle.std.proofs.Common.{◌≡◌, ℕ, ◌<◌, Bool, true, false, List, [], length, refl, sym, ◌∙◌, ap}
use Rattle.std.specs.{Prelude.codes, Str.bytes_eq}
use Rattle.of_ovs_words.{specs.Words.after_word, specs.Words.word_in, specs.Words.word_name, specs.Words.words_from, proofs.WordLemmas.first_word}
use Rattle.of_ovs_text.specs.MessageFlows.{has_table_word}

-- of the first word
named_so : (rest word name : List ℕ) (t : Bool) → word ≡ word_in 0 rest → name ≡ word_name word → t ≡ bytes_eq name (codes "table") → bytes_eq (word_name (word_in 0 rest)) (codes "table") ≡ t
named_so rest word name t w n e = ap (λ (x : List ℕ). bytes_eq (word_name x) (codes "table")) (sym w) ∙ (ap (λ (x : List ℕ). bytes_eq x (codes "table")) (sym n) ∙ sym e)

pub table_here : (all : Bool) (rest word name : List ℕ) (t : Bool) → all ≡ has_table_word rest → 0 < length rest → word ≡ word_in 0 rest → name ≡ word_name word → t ≡ bytes_eq name (codes "table") → t ≡ true → true ≡ all
table_here all rest word name t i h w n e here = sym (i ∙ rw (first_word rest h, named_so rest word name t w n e, here) refl)

pub table_later : (all : Bool) (rest word after name : List ℕ) (t : Bool) → all ≡ has_table_word rest → 0 < length rest → word ≡ word_in 0 rest → after ≡ after_word 0 rest → name ≡ word_name word → t ≡ bytes_eq name (codes "table") → t ≡ false → all ≡ has_table_word after
table_later all rest word after name t i h w a n e other = i ∙ rw (first_word rest h, named_so rest word name t w n e, other, a) refl

pub no_table : (rest : List ℕ) → rest ≡ [] → has_table_word rest ≡ false
unfolding words_from
no_table rest e = rw e refl
