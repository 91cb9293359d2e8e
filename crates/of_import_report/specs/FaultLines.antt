-- LINES THAT ARE REFUSED FOR THEIR WORDS, as standard error names them.
use Rattle.std.specs.Prelude.{ℕ, ◌==◌, List, [], ◌∷◌, ◌++◌, codes, decimal, length, map, take, if◌then◌else◌}
use Rattle.std.specs.List.{flat_map}
use Rattle.of_ovs_words.specs.declared.why.Why.TheVariants as whys
use Rattle.of_values.specs.Origins.{printable}
use Rattle.of_import.specs.declared.parsed_lines.LineFaults.{LineFaults}
use Rattle.of_ovs_lines.specs.declared.word_fault.WordFault.{WordFault}
use Rattle.of_import_report.specs.Help.{help_of, word_reason}

-- `: 0 to 7`
abbrev pub behind_colon : List ℕ → List ℕ
behind_colon words = if length words == 0 then [] else codes ": " ++ words

-- `line 3: vlan_pcp=9: invalid value: 0 to 7`
abbrev pub refused_word_line : ℕ → WordFault → List ℕ
refused_word_line line f = codes "line " ++ decimal line ++ codes ": " ++ map printable f.word.items ++ codes ": " ++ word_reason f ++ behind_colon (help_of f) ++ 10 ∷ []

-- the words of these lines
abbrev pub words_of_refused_line : LineFaults → List ℕ
words_of_refused_line l = flat_map (refused_word_line l.line) l.faults.items

-- THE FIRST LINES, so many at most
unfoldable pub first_words : ℕ → List LineFaults → List ℕ
first_words most faults = flat_map words_of_refused_line (take most faults)
