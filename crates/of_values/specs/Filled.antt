-- LINES AS CONSTANTS: in a line each 37 (%) is a mark, and the texts of the parts stand in the places of the marks, in their order.
use Rattle.std.specs.Prelude.{ℕ, ◌==◌, List, [], ◌∷◌, ◌++◌, decimal, if◌then◌else◌}
use Rattle.of_values.specs.declared.lines.Part.{Part}
use Rattle.of_values.specs.declared.lines.Part.TheVariants.{Number, Hex, Port, Text}
use Rattle.of_values.specs.Numbers.{hexadecimal, port_in_words}

abbrev pub part_text : Part → List ℕ
part_text (Number n) = decimal n
part_text (Hex n) = hexadecimal 1 n
part_text (Port n) = port_in_words n
part_text (Text text) = text.now

-- marks for which no part is left stay as they are
unfoldable pub filled : List ℕ → List (List ℕ) → List ℕ
filled [] parts = []
filled (byte ∷ rest) [] = byte ∷ filled rest []
filled (byte ∷ rest) (p ∷ parts) = if byte == 37 then p ++ filled rest parts else byte ∷ filled rest (p ∷ parts)
