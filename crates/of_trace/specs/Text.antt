-- THE TEXT OF A TRACE: one line a step, in the words of flow text where it has them, and then what the frame gives, in the lines of event output.
use Rattle.std.specs.Prelude.{ℕ, List, [], ◌∷◌, ◌++◌, codes, decimal}
use Rattle.std.specs.List.{flat_map}
use Rattle.of_machine.specs.declared.data.Step.TheVariants.{Miss, Entry, Apply, Clear, Write, Metadata, Goto, Set, Act, TtlExpired, End}
use Rattle.of_machine.specs.declared.data.Step.{Step}
use Rattle.of_actions.specs.declared.action.Action.TheVariants.{DecNwTtl}
use Rattle.of_text.specs.{Lines.joined, Lines.ended, Rows.row_encoding}
use Rattle.of_lines.specs.declared.row.Row.TheVariants as rows
use Rattle.of_datapath.specs.declared.effect.Effect.{Effect}
use Rattle.of_replay.specs.Output.{text_of}

-- the entry of a table is named by its index by age, from 0
abbrev pub step_line : Step → List ℕ
step_line (Miss table) = joined (codes "lookup" ∷ decimal table ∷ codes "miss" ∷ [])
step_line (Entry table place) = joined (codes "lookup" ∷ decimal table ∷ codes "entry" ∷ decimal place ∷ [])
step_line Apply = row_encoding rows.Apply
step_line Clear = row_encoding rows.Clear
step_line Write = row_encoding rows.Write
step_line (Metadata value mask) = row_encoding (rows.Metadata value mask)
step_line (Goto table) = row_encoding (rows.Goto table)
step_line Set = codes "set"
step_line (Act action) = row_encoding (rows.Do action)
step_line TtlExpired = row_encoding (rows.Do DecNwTtl) ++ codes " expired"
step_line End = codes "end"

abbrev pub steps_text : List Step → List ℕ
steps_text steps = flat_map (λ s. ended (step_line s)) steps

abbrev pub trace_text : List Step → List Effect → List ℕ
trace_text steps effects = steps_text steps ++ text_of effects
