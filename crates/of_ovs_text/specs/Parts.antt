-- NUMBERS BEHIND THEIR NAMES: `idle_timeout=5,`
use Rattle.std.specs.Prelude.{ℕ, ◌==◌, List, [], ◌++◌, codes, decimal, if◌then◌else◌}

abbrev pub number_part : List ℕ → ℕ → List ℕ
number_part name n = name ++ decimal n ++ codes ","

-- nothing for the number that is meant if none is written
abbrev pub unless_default : List ℕ → ℕ → ℕ → List ℕ
unless_default name default n = if n == default then [] else number_part name n
