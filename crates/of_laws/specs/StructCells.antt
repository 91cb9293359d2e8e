-- A struct's fields with their numbers.
use Prim.Native.String.{String}
use Rattle.std.specs.Prelude.{ℕ, Bool, List, [], ◌∷◌, codes, bytes_eq, if◌then◌else◌}
use Rattle.of_laws.specs.Cells as cells
use Rattle.of_laws.specs.Cells.{StructCell}
use Rattle.of_formats.specs.Structs.{Struct, byte, number, plain, pad}

-- the fields of a struct with these numbers
abbrev pub cells_of : Struct → List ℕ → List (List ℕ) → List StructCell
cells_of [] ns xs = []
cells_of (byte name ∷ s) [] xs = []
cells_of (byte name ∷ s) (n ∷ ns) xs = cells.byte n ∷ cells_of s ns xs
cells_of (number name w ∷ s) [] xs = []
cells_of (number name w ∷ s) (n ∷ ns) xs = cells.number w n ∷ cells_of s ns xs
cells_of (plain name w ∷ s) ns [] = []
cells_of (plain name w ∷ s) ns (x ∷ xs) = cells.plain w x ∷ cells_of s ns xs
cells_of (pad w ∷ s) ns xs = cells.pad w ∷ cells_of s ns xs

abbrev pub same_name : String → String → Bool
same_name a b = bytes_eq (codes a) (codes b)

-- the field of that name is ignored
abbrev pub without_field : String → Struct → Struct
without_field name [] = []
without_field name (byte other ∷ s) = (if same_name name other then pad 1 else byte other) ∷ without_field name s
without_field name (number other w ∷ s) = (if same_name name other then pad w else number other w) ∷ without_field name s
without_field name (plain other w ∷ s) = plain other w ∷ without_field name s
without_field name (pad w ∷ s) = pad w ∷ without_field name s
