-- THE LINES OF A CONFIGURATION, and whether `import` reads them back.
use Rattle.std.specs.Prelude.{◌≡◌, ℕ, zero, suc, Bool, true, false, List, [], ◌++◌, slice_index_or, Option, Some, None}
use Rattle.std.specs.{List.flat_map, Global.Vec}
use Rattle.of_text.specs.{Configs.Configuration, Configs.config_text, Lines.lines_of}
use Rattle.of_ovs_lines.specs.declared.mode.Mode.{Mode}
use Rattle.of_import.specs.Imports.{IsImportText}
use Rattle.of_ovs_text.specs.{Flows.flow_line, Groups.group_line, Lengths.with_used_lengths}

-- the flows of the first k tables
unfoldable pub flow_lines_below : ℕ → Configuration → List ℕ
flow_lines_below zero c = []
flow_lines_below (suc k) c = flow_lines_below k c ++ flat_map flow_line (slice_index_or c.tables k [])

-- THE LINES: the groups in ascending order of number, then the flows by table, and in a table the oldest first
unfoldable pub ovs_text_of : Configuration → List ℕ
ovs_text_of c = flat_map group_line c.groups ++ flow_lines_below 16 c

-- all lines are to be read, and tables keep their numbers
abbrev pub whole_file : Mode
whole_file = record { skip = false; renumber = false }

-- IMPORT READS THE LINES AS THIS CONFIGURATION: it gives the flow text of the configuration, in which OUTPUT has a max_len only for CONTROLLER,
-- refuses no line, and leaves no action out
abbrev pub ImportReads : List ℕ → Configuration → Type 0
ImportReads text c = IsImportText (lines_of text) whole_file (with_used_lengths (config_text c)) [] [] 0

abbrev pub IsReadAgain : List ℕ → Configuration → Bool → Type 0
IsReadAgain text c true = ImportReads text c
IsReadAgain text c false = ImportReads text c → ⊥

-- WHAT IS ANSWERED: the lines if import reads them as the configuration, else nothing
abbrev pub IsOvsText : Configuration → Option (Vec ℕ) → Type 0
IsOvsText c (Some text) = (text.items ≡ ovs_text_of c) × ImportReads (ovs_text_of c) c
IsOvsText c None = ImportReads (ovs_text_of c) c → ⊥
