-- TEXTS WITH COLORS: the bytes of a text in their order, and around some parts of it sequences of SGR (ECMA-48, 8.3.117).
use Rattle.std.specs.Prelude.{◌≡◌, ℕ, List, ◌∷◌, ◌++◌, codes, Option, Some, None}
use Rattle.std.specs.List.{flat_map}
use Rattle.of_command_line.specs.declared.painting.Color.{Color}
use Rattle.of_command_line.specs.declared.painting.Color.TheVariants.{Red, Green, Yellow, Cyan}
use Rattle.of_command_line.specs.declared.painting.Part.{Part}

-- ESC [ 31 m and so on: the color of what follows
abbrev pub color_on : Color → List ℕ
color_on Red = 27 ∷ codes "[31m"
color_on Green = 27 ∷ codes "[32m"
color_on Yellow = 27 ∷ codes "[33m"
color_on Cyan = 27 ∷ codes "[36m"

-- a part of a text, without its color
abbrev pub without_color : Part → List ℕ
without_color part = part.text.now

abbrev pub in_color : Option Color → List ℕ → List ℕ
in_color None text = text
in_color (Some color) text = color_on color ++ text ++ 27 ∷ codes "[0m"

-- and with it
abbrev pub with_color : Part → List ℕ
with_color part = in_color part.color part.text.now

-- A TEXT, AND THE SAME WITH COLORS: without the sequences around its parts it is the text
abbrev pub IsPainted : List ℕ → List ℕ → Type 0
IsPainted text painted = (parts : List Part) × (flat_map without_color parts ≡ text) × (flat_map with_color parts ≡ painted)
