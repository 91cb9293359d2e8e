-- THE max_len OF OUTPUT IN FLOW TEXT: it has a meaning only for CONTROLLER (OpenFlow 1.3.5, 7.2.5), and `ovs-ofctl` has no words for that of another port.
use Rattle.std.specs.Prelude.{ℕ, ◌&&◌, not, Bool, List, [], ◌∷◌, ◌++◌, codes, if◌then◌else◌}
use Rattle.std.specs.{List.flat_map, Str.bytes_eq}
use Rattle.of_text.specs.Lines.{before, behind, ended, lines_of}

-- a line `output PORT MAX`
abbrev pub port_of_output : List ℕ → List ℕ
port_of_output line = before 32 (behind 32 line)

-- to another port than CONTROLLER
abbrev pub has_unused_length : List ℕ → Bool
has_unused_length line = bytes_eq (before 32 line) (codes "output") && not (bytes_eq (port_of_output line) (codes "4294967293"))

abbrev pub output_line_of_zero : List ℕ → List ℕ
output_line_of_zero line = codes "output " ++ port_of_output line ++ 32 ∷ 48 ∷ 10 ∷ []

abbrev pub line_with_used_length : List ℕ → List ℕ
line_with_used_length line = if has_unused_length line then output_line_of_zero line else ended line

-- THE FLOW TEXT in which the max_len of an OUTPUT to another port is 0
unfoldable pub with_used_lengths : List ℕ → List ℕ
with_used_lengths text = flat_map line_with_used_length (lines_of text)
