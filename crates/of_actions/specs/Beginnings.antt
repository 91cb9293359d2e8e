-- What an action or an instruction begins with (OpenFlow 1.3.5, 7.2.4 and 7.2.5).
use Rattle.std.specs.Prelude.{ℕ, List, ◌∷◌, drop}
use Rattle.byteorder.specs.Endian.{big_number}
use Rattle.of_formats.specs.Structs.{Struct, numbers}

-- its type, and the length of all of it in bytes
abbrev pub type_at : List ℕ → ℕ
type_at rest = big_number 2 rest

abbrev pub len_at : List ℕ → ℕ
len_at rest = big_number 2 (drop 2 rest)

-- what comes behind them in its struct, such as the port of an OUTPUT, the number of a GROUP, the table of a GOTO_TABLE
abbrev pub third_of : List ℕ → ℕ
third_of (type ∷ len ∷ argument ∷ others) = argument
third_of other = 0

abbrev pub argument_at : Struct → List ℕ → ℕ
argument_at s rest = third_of (numbers s 0 rest)
