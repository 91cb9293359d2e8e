-- The structs of the standard: fields of given sizes, one after the other, numbers in big-endian order (OpenFlow 1.3.5, 7).
use Rattle.std.specs.Prelude.{◌≡◌, ◌≤◌, ◌<◌, ℕ, ◌%◌, ◌^◌, List, [], ◌∷◌, ◌++◌, length, take, drop, replicate}
use Rattle.byteorder.specs.Endian.{big_number, big_bytes}

-- A field: a number of one byte; a number of n bytes; n bytes as they are; n bytes of padding, which may be any; and n bytes of flags, of which the lowest is not set and the others are ignored.
pub data StructCell : Type 0 where
  byte : ℕ → StructCell
  number : ℕ → ℕ → StructCell
  plain : ℕ → List ℕ → StructCell
  pad : ℕ → StructCell
  even : ℕ → StructCell

abbrev pub u16_cell : ℕ → StructCell
u16_cell n = number 2 n

abbrev pub u32_cell : ℕ → StructCell
u32_cell n = number 4 n

abbrev pub u64_cell : ℕ → StructCell
u64_cell n = number 8 n

abbrev pub cell_width : StructCell → ℕ
cell_width (byte n) = 1
cell_width (number w n) = w
cell_width (plain w xs) = w
cell_width (pad w) = w
cell_width (even w) = w

-- the bytes of a field
abbrev pub IsCell : StructCell → List ℕ → Type 0
IsCell (byte n) bytes = (n < 256) × (bytes ≡ n ∷ [])
IsCell (number w n) bytes = (n < 256 ^ w) × (bytes ≡ big_bytes w n)
IsCell (plain w xs) bytes = (length xs ≡ w) × (bytes ≡ xs)
IsCell (pad w) bytes = Unit {0}
IsCell (even w) bytes = big_number w bytes % 2 ≡ 0

-- the bytes begin with these fields, one after the other, and then comes the rest
abbrev pub Begins : List StructCell → List ℕ → List ℕ → Type 0
Begins [] bytes rest = bytes ≡ rest
Begins (c ∷ cs) bytes rest = (cell_width c ≤ length bytes) × IsCell c (take (cell_width c) bytes) × Begins cs (drop (cell_width c) bytes) rest

-- each number fits its bytes, and bytes that are given as they are have their width
abbrev pub FitsCells : List StructCell → Type 0
FitsCells [] = Unit {0}
FitsCells (byte n ∷ cs) = (n < 256) × FitsCells cs
FitsCells (number w n ∷ cs) = (n < 256 ^ w) × FitsCells cs
FitsCells (plain w xs ∷ cs) = (length xs ≡ w) × FitsCells cs
FitsCells (pad w ∷ cs) = FitsCells cs
FitsCells (even w ∷ cs) = FitsCells cs

-- the bytes of a field as it is written: padding and flags are zeros
abbrev pub canonical_cell : StructCell → List ℕ
canonical_cell (byte n) = n ∷ []
canonical_cell (number w n) = big_bytes w n
canonical_cell (plain w xs) = xs
canonical_cell (pad w) = replicate w 0
canonical_cell (even w) = big_bytes w 0

abbrev pub canonical_cells : List StructCell → List ℕ
canonical_cells [] = []
canonical_cells (c ∷ cs) = canonical_cell c ++ canonical_cells cs
