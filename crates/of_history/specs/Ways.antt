-- THE WAY OF A FRAME that is received: the steps of its run, with the entries that they found, and what the run emits. Its words need no switch.
use Rattle.std.specs.Prelude.{ℕ, List, [], ◌++◌, codes, Option, Some, None}
use Rattle.std.specs.{List.flat_map, Option.option_map}
use Rattle.of_table.specs.declared.flow.Flow.{Flow}
use Rattle.of_machine.specs.{declared.data.Item.Item, declared.data.Step.Step, declared.data.Step.TheVariants.Act, declared.data.Step.TheVariants.Entry, declared.data.Step.TheVariants.Miss}
use Rattle.of_datapath.specs.Datapath.{Forwarding}
use Rattle.of_text.specs.Lines.{ended}
use Rattle.of_values.specs.Entries.{entry_words}
use Rattle.of_json.specs.LeavingWords.{side_words}
use Rattle.of_trace.specs.Words.{action_line, flow_there, numbered_words, plain_line}
use Rattle.of_history.specs.{declared.way.FoundStep.FoundStep, declared.way.Winner.Winner}

-- ---- a step, with the priority and the match of the entry that it found

abbrev pub entry_said : Flow → Winner
entry_said f = record { priority = f.priority; fields = f.fields }

abbrev pub winner_at : Forwarding → Step → Option Winner
winner_at f (Entry table place) = option_map entry_said (flow_there f table place)
winner_at f other = None

abbrev pub found_step : Forwarding → Step → FoundStep
found_step f s = record { step = s; winner = winner_at f s }

-- ---- in words

abbrev pub winner_words : Option Winner → List ℕ
winner_words None = []
winner_words (Some w) = codes ", " ++ entry_words w.priority w.fields

-- an entry without its place in its table, which other entries shift as they come and go
unfoldable pub line_with : Option Winner → Step → List ℕ
line_with winner (Entry table place) = numbered_words (codes "table") table ++ winner_words winner
line_with winner (Miss table) = numbered_words (codes "table") table ++ codes ": no entry matches"
line_with winner (Act action) = action_line action
line_with winner other = plain_line other

abbrev pub found_line : FoundStep → List ℕ
found_line s = ended (line_with s.winner s.step)

unfoldable pub way_words : List FoundStep → List Item → List ℕ
way_words steps items = flat_map found_line steps ++ side_words [] items
