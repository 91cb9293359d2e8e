-- WHAT COMMENTS SAY ABOUT A TEXT: that it is part of a table, new numbers of tables, and lines and actions that are left out or changed.
use Rattle.std.specs.Prelude.{ℕ, ◌+◌, ◌==◌, not, Bool, List, [], ◌∷◌, ◌++◌, codes, decimal, length, map, if◌then◌else◌}
use Rattle.std.specs.List.{flat_map}
use Rattle.of_wire.specs.declared.code.Code.{Code}
use Rattle.of_values.specs.Origins.{printable}
use Rattle.of_ovs_lines.specs.PartialFlows.{Refusal}
use Rattle.of_import.specs.{ParsedLines.FlowAt, Kept.Kept}

abbrev pub comment : List ℕ → List ℕ
comment words = codes "# " ++ map printable words ++ 10 ∷ []

abbrev pub spaced_number : ℕ → List ℕ
spaced_number n = 32 ∷ decimal n

-- the first line, if lines are left out
abbrev pub part_words : ℕ → List ℕ
part_words n = codes "part of a table:" ++ spaced_number n ++ codes " lines left out"

abbrev pub part_note : ℕ → List ℕ
part_note n = if n == 0 then [] else comment (part_words n)

-- a table that has another number
abbrev pub renumbered_table_words : ℕ × ℕ → List ℕ
renumbered_table_words m = codes "table" ++ spaced_number m.0 ++ codes " is table" ++ spaced_number m.1

-- a line with words that are refused
abbrev pub word_after_space : Refusal → List ℕ
word_after_space r = 32 ∷ r.word

abbrev pub fault_words : ℕ × List Refusal → List ℕ
fault_words f = codes "line" ++ spaced_number f.0 ++ codes " left out:" ++ flat_map word_after_space f.1

-- a line that the switch refuses
abbrev pub refusal_words : ℕ × Code → List ℕ
refusal_words r = codes "line" ++ spaced_number r.0 ++ codes " left out: type" ++ spaced_number r.1.kind ++ codes " code" ++ spaced_number r.1.code

-- an action that is left out
abbrev pub left_out_action_words : ℕ → List ℕ → List ℕ
left_out_action_words line word = codes "line" ++ spaced_number line ++ codes " without action " ++ word

abbrev pub resubmit_words : ℕ → List ℕ
resubmit_words line = codes "line" ++ spaced_number line ++ codes ": resubmit is goto"

abbrev pub resubmit_note : FlowAt → List ℕ
resubmit_note f = if f.marks.resubmits then comment (resubmit_words f.line) else []

abbrev pub mark_notes : FlowAt → List ℕ
mark_notes f = flat_map (λ word. comment (left_out_action_words f.line word)) f.marks.left ++ resubmit_note f

-- what a dump counted of a flow
abbrev pub counter_words : List (List ℕ) → List ℕ
counter_words words = codes "counters:" ++ flat_map (λ word. 32 ∷ word) words

abbrev pub counter_note : FlowAt → List ℕ
counter_note f = if length f.marks.counters == 0 then [] else comment (counter_words f.marks.counters)

abbrev pub is_changed : FlowAt → Bool
is_changed f = not (length f.marks.left == 0)

-- THE COMMENTS
unfoldable pub notes_of : List (ℕ × ℕ) → List (ℕ × List Refusal) → Kept → List ℕ
notes_of moves faults k =
    part_note (length faults + length k.refused)
    ++ flat_map (λ m. comment (renumbered_table_words m)) moves
    ++ flat_map (λ f. comment (fault_words f)) faults
    ++ flat_map (λ r. comment (refusal_words r)) k.refused
    ++ flat_map mark_notes k.flows
