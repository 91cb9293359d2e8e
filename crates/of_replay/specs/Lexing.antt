-- Lines of event files: their words, numbers and bytes.
use Rattle.std.specs.Prelude.{ℕ, ◌+◌, ◌-◌, ◌*◌, ◌^◌, ◌==◌, ◌&&◌, ◌||◌, nat_le, nat_lt, Bool, true, false, List, [], ◌∷◌, ◌++◌, length, take, drop, replicate, position, codes, Option, Some, None, if◌then◌else◌}
use Rattle.std.specs.{List.list_all, Result.result_ok, Str.bytes_eq, Str.is_utf8}
use Rattle.hex.specs.Hex.{decode_of, decode_sized}

-- LINES

-- the whole lines of bytes, where a line has begun with these, and the line that is left open
abbrev pub whole_from : List ℕ → List ℕ → List (List ℕ)
whole_from line [] = []
whole_from line (b ∷ bs) = if b == 10 then line ∷ whole_from [] bs else whole_from (line ++ b ∷ []) bs

abbrev pub last_from : List ℕ → List ℕ → List ℕ
last_from line [] = line
last_from line (b ∷ bs) = if b == 10 then last_from [] bs else last_from (line ++ b ∷ []) bs

-- the lines that end by LF
abbrev pub whole_lines : List ℕ → List (List ℕ)
whole_lines file = whole_from [] file

-- all lines: the last one may also end by the file's end (it may be empty, and an empty line is skipped)
abbrev pub lines_of_file : List ℕ → List (List ℕ)
lines_of_file file = whole_lines file ++ last_from [] file ∷ []

-- a line is UTF-8, and has 1,048,576 bytes at most
abbrev pub is_line : List ℕ → Bool
is_line line = nat_le (length line) 1048576 && is_utf8 line

-- WORDS, separated by one space

abbrev pub word_before : List ℕ → Option ℕ → List ℕ
word_before line None = line
word_before line (Some k) = take k line

abbrev pub after_at : List ℕ → Option ℕ → Option (List ℕ)
after_at line None = None
after_at line (Some k) = Some (drop (k + 1) line)

abbrev pub first_word : List ℕ → List ℕ
first_word line = word_before line (position (λ b. b == 32) line)

-- what follows the space after the first word
abbrev pub after_first_word : List ℕ → Option (List ℕ)
after_first_word line = after_at line (position (λ b. b == 32) line)

-- NUMBERS: decimal, without leading zeros, of 32 bits

abbrev pub is_digit : ℕ → Bool
is_digit b = nat_le 48 b && nat_le b 57

-- the value of digits that follow digits of the value v
abbrev pub value_of_decimal : ℕ → List ℕ → Option ℕ
value_of_decimal v [] = Some v
value_of_decimal v (d ∷ ds) = if is_digit d then value_of_decimal (10 * v + (d - 48)) ds else None

abbrev pub below_limit : ℕ → Option ℕ → Option ℕ
below_limit limit None = None
below_limit limit (Some n) = if nat_lt n limit then Some n else None

-- below a limit, and without leading zeros
abbrev pub decimal : ℕ → List ℕ → Option ℕ
decimal limit [] = None
decimal limit (d ∷ []) = below_limit limit (value_of_decimal 0 (d ∷ []))
decimal limit (d ∷ e ∷ ds) = if d == 48 then None else below_limit limit (value_of_decimal 0 (d ∷ e ∷ ds))

-- of 32 bits
abbrev pub word_number : List ℕ → Option ℕ
word_number word = decimal (2 ^ 32) word

-- of 64 bits
abbrev pub moment_of : List ℕ → Option ℕ
moment_of word = decimal (2 ^ 64) word

-- BYTES: hex digits in either case, or `-` for none

abbrev pub hex_bytes : List ℕ → Option (List ℕ)
hex_bytes word =
    if bytes_eq word (codes "-") then Some []
    else (if length word == 0 then None else result_ok (decode_of word))

-- 12 hex digits
abbrev pub hw_of : List ℕ → Option (List ℕ)
hw_of word = result_ok (decode_sized word 6)

-- a port's name: 1 to 15 of a to z and 0 to 9, padded with zeros to 16 bytes

abbrev pub is_name_byte : ℕ → Bool
is_name_byte b = (nat_le 97 b && nat_le b 122) || (nat_le 48 b && nat_le b 57)

abbrev pub name_in_word : List ℕ → Option (List ℕ)
name_in_word word =
    if nat_le 1 (length word) && nat_le (length word) 15 && list_all is_name_byte word
    then Some (word ++ replicate (16 - length word) 0)
    else None

abbrev pub state_of : List ℕ → Option Bool
state_of word = if bytes_eq word (codes "up") then Some true else (if bytes_eq word (codes "down") then Some false else None)
