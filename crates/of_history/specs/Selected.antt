-- THE FLOW ENTRIES THAT ARE SELECTED, by table and then by age, each in a line that has all of it except its counters (OpenFlow 1.3.5, 5.2).
use Rattle.std.specs.Prelude.{ℕ, ◌==◌, ◌&&◌, Bool, true, List, [], ◌∷◌, ◌++◌, codes, decimal, Option, Some, None, bit_and, if◌then◌else◌}
use Rattle.std.specs.{List.flat_map, Option.option_map_or}
use Rattle.of_oxm.specs.{declared.match_field.MatchField.MatchField, Relations.covers_match}
use Rattle.of_actions.specs.declared.instruction.Instruction.{Instruction}
use Rattle.of_actions.specs.declared.instruction.Instruction.TheVariants as instructions
use Rattle.of_table.specs.{Table.FlowEntry, Table.Table, Table.flags_number, Tables.is_in}
use Rattle.of_machine.specs.declared.data.Step.TheVariants.{Apply, Clear, Write, Metadata, Goto, Act}
use Rattle.of_machine.specs.declared.data.Step.{Step}
use Rattle.of_statistics.specs.Flows.{from_tables}
use Rattle.of_datapath.specs.Datapath.{Forwarding}
use Rattle.of_text.specs.Lines.{ended}
use Rattle.of_values.specs.{Filled.filled, Numbers.hexadecimal}
use Rattle.of_trace.specs.Words.{found_words, words_line}
use Rattle.of_history.specs.{declared.entries.EntryFilter.EntryFilter, Expiring.expiry_line}
use Rattle.of_history.specs.declared.entries.TheConstants as line

-- the entry's match is at least as specific as these fields (6.4); its priority is that of the filter, if it has one; and the cookies agree in the bits of the mask
abbrev pub is_selected : EntryFilter → List MatchField → FlowEntry → Bool
is_selected w fields e =
    covers_match fields e.flow.fields && option_map_or (λ priority. e.flow.priority == priority) w.priority true
    && bit_and e.flow.cookie w.cookie_mask == bit_and w.cookie w.cookie_mask

-- what it does, in the words of a trace
unfoldable pub further_step : Forwarding → Step → List ℕ
further_step f s = codes ", " ++ words_line f s

abbrev pub instruction_words : Forwarding → Instruction → List ℕ
instruction_words f (instructions.Apply actions) = further_step f Apply ++ flat_map (λ a. further_step f (Act a)) actions
instruction_words f instructions.Clear = further_step f Clear
instruction_words f (instructions.Write actions) = further_step f Write ++ flat_map (λ a. further_step f (Act a)) actions
instruction_words f (instructions.Metadata value mask) = further_step f (Metadata value mask)
instruction_words f (instructions.Goto table) = further_step f (Goto table)

-- since when it is there, and for how long
unfoldable pub lasting_words : FlowEntry → List ℕ
lasting_words e =
    filled line.LASTING (hexadecimal 1 e.flow.cookie ∷ decimal e.flow.idle_timeout ∷ decimal e.flow.hard_timeout ∷ decimal (flags_number e.flow.flags) ∷ decimal e.created ∷ [])

unfoldable pub selected_line : Forwarding → ℕ → FlowEntry → List ℕ
selected_line f table e = filled line.TABLE (decimal table ∷ []) ++ found_words (Some e.flow) ++ lasting_words e ++ flat_map (instruction_words f) e.flow.instructions

-- what is said of an entry: all, or whether it expires at a moment
abbrev pub said_of_entry : Forwarding → Option ℕ → ℕ → FlowEntry → List ℕ
said_of_entry f None table e = ended (selected_line f table e)
said_of_entry f (Some moment) table e = expiry_line moment table e

abbrev pub entry_selected : EntryFilter → List MatchField → Forwarding → Option ℕ → ℕ → FlowEntry → List ℕ
entry_selected w fields f moment table e = if is_selected w fields e then said_of_entry f moment table e else []

abbrev pub table_selected : EntryFilter → List MatchField → Forwarding → Option ℕ → ℕ → Table → List ℕ
table_selected w fields f moment k t = if is_in w.table k then flat_map (entry_selected w fields f moment k) t.flows else []

unfoldable pub selected_entries : EntryFilter → List MatchField → Option ℕ → Forwarding → List ℕ
selected_entries w fields moment f = from_tables (table_selected w fields f moment) 0 f.tables.tables
