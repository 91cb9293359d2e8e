-- NUMBERS IN WORDS: decimal, or hexadecimal after 0x or 0X.
use Rattle.std.specs.Prelude.{ℕ, ◌+◌, ◌-◌, ◌*◌, ◌==◌, ◌&&◌, Bool, nat_le, nat_lt, List, [], ◌∷◌, length, slice_index, codes, Option, Some, None, if◌then◌else◌}
use Rattle.std.specs.Str.{bytes_eq}
use Rattle.of_lines.specs.{Lines.before, Lines.behind, Reading.below, Reading.◌>>=◌}

-- the value of a digit, in either case
abbrev pub digit : ℕ → Option ℕ
digit b =
    if nat_le 48 b && nat_le b 57 then Some (b - 48)
    else if nat_le 97 b && nat_le b 102 then Some (b - 87)
    else if nat_le 65 b && nat_le b 70 then Some (b - 55)
    else None

-- the value of a digit of this base
abbrev pub digit_in : ℕ → ℕ → Option ℕ
digit_in base b = digit b >>= below base

-- the number, below the limit, that digits of this base make, after digits of that value
abbrev pub digits_in : ℕ → ℕ → ℕ → List ℕ → Option ℕ
digits_in base limit v [] = Some v
digits_in base limit v (b ∷ bs) = do
  d ← digit_in base b
  next ← below limit (base * v + d)
  digits_in base limit next bs

-- one digit at least
abbrev pub some_digits : ℕ → ℕ → List ℕ → Option ℕ
some_digits base limit [] = None
some_digits base limit (b ∷ bs) = digits_in base limit 0 (b ∷ bs) >>= below limit

-- digits behind a zero: ovs-ofctl reads most of them as octal, and some as decimal, so they are refused
abbrev pub is_octal : List ℕ → Bool
is_octal word = slice_index word 0 == 48 && nat_lt 1 (length word)

abbrev pub decimal_number : ℕ → List ℕ → Option ℕ
decimal_number limit word = if is_octal word then None else some_digits 10 limit word

-- what stands behind 0x or 0X
abbrev pub hexadecimal_digits : List ℕ → List ℕ
hexadecimal_digits word =
    if bytes_eq (before 120 word) (codes "0") then behind 120 word
    else if bytes_eq (before 88 word) (codes "0") then behind 88 word
    else []

abbrev pub number_in : ℕ → List ℕ → Option ℕ
number_in limit word = if length (hexadecimal_digits word) == 0 then decimal_number limit word else some_digits 16 limit (hexadecimal_digits word)
