-- A LINE AS WORDS (ovs-ofctl(8)): commas and white space separate them, outside of parentheses.
use Rattle.std.specs.Prelude.{ℕ, ◌+◌, ◌-◌, ◌==◌, ◌&&◌, ◌||◌, Bool, List, [], ◌∷◌, length, get_or, take, if◌then◌else◌}
use Rattle.of_lines.specs.Lines.{prepended}

-- a comma, a space, a tab, a CR
abbrev pub is_gap : ℕ → Bool
is_gap b = b == 44 || b == 32 || b == 9 || b == 13

-- how many parentheses are open after the byte, of so many before it
abbrev pub depth_after : ℕ → ℕ → ℕ
depth_after depth b = if b == 40 then depth + 1 else if b == 41 then depth - 1 else depth

abbrev pub ends : ℕ → ℕ → Bool
ends depth b = (depth == 0) && is_gap b

-- the first word, where so many parentheses are open
abbrev pub word_in : ℕ → List ℕ → List ℕ
word_in depth [] = []
word_in depth (b ∷ bs) = if ends depth b then [] else b ∷ word_in (depth_after depth b) bs

-- what comes after the byte that ends it
abbrev pub after_word : ℕ → List ℕ → List ℕ
after_word depth [] = []
after_word depth (b ∷ bs) = if ends depth b then bs else after_word (depth_after depth b) bs

-- THE WORDS: between two separators there is one, which may be empty
unfoldable pub words_from : ℕ → List ℕ → List (List ℕ)
words_from depth [] = []
words_from depth (b ∷ bs) = if ends depth b then [] ∷ words_from 0 bs else prepended b (words_from (depth_after depth b) bs)

-- A WORD is a name, and a value after `=` or `:` or in parentheses

abbrev pub is_mark : ℕ → Bool
is_mark b = b == 61 || b == 58 || b == 40

abbrev pub word_name : List ℕ → List ℕ
word_name [] = []
word_name (b ∷ bs) = if is_mark b then [] else b ∷ word_name bs

-- the mark and what comes after it
abbrev pub marked_in : List ℕ → List ℕ
marked_in [] = []
marked_in (b ∷ bs) = if is_mark b then b ∷ bs else marked_in bs

-- what comes before the closing parenthesis, which may be missing at the end of a line
abbrev pub enclosed : List ℕ → List ℕ
enclosed bs = if get_or bs (length bs - 1) 0 == 41 then take (length bs - 1) bs else bs

-- within parentheses, or after the mark
abbrev pub unmarked : List ℕ → List ℕ
unmarked [] = []
unmarked (b ∷ bs) = if b == 40 then enclosed bs else bs

abbrev pub word_value : List ℕ → List ℕ
word_value word = unmarked (marked_in word)
