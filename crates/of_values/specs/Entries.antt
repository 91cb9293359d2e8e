-- FLOW ENTRIES IN WORDS: `priority 100, eth_type 0x0800, ipv4_dst 10.0.0.0/8`.
use Rattle.std.specs.Prelude.{ℕ, List, [], ◌∷◌, ◌++◌, codes, decimal}
use Rattle.std.specs.List.{flat_map}
use Rattle.of_layers.specs.Fields.{name_of}
use Rattle.of_oxm.specs.declared.match_field.MatchField.{MatchField}
use Rattle.of_values.specs.Values.{value_words}

-- a field of a match: its name, and its value
unfoldable pub field_words : MatchField → List ℕ
field_words e = name_of e.field ++ 32 ∷ value_words e.field e.value e.mask

abbrev pub further_field : MatchField → List ℕ
further_field e = codes ", " ++ field_words e

-- a match, behind the priority
unfoldable pub match_words : List MatchField → List ℕ
match_words [] = codes ", any packet"
match_words (e ∷ es) = flat_map further_field (e ∷ es)

-- A FLOW ENTRY: its priority and its match (OpenFlow 1.3.5, 5.2)
unfoldable pub entry_words : ℕ → List MatchField → List ℕ
entry_words priority fields = codes "priority " ++ decimal priority ++ match_words fields
