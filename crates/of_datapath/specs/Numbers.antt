-- The tables as the code keeps them: their classifiers give entries numbers, which need not be their index by age.
use Rattle.std.specs.Prelude.{ℕ, List, map, slice_index, Option}
use Rattle.std.specs.Option.{option_map}
use Rattle.of_layers.specs.declared.field.Field.{Field}
use Rattle.of_table.specs.{declared.flow.Flow.Flow, declared.entry.Entry.Entry, Table.winner_place, Table.flow_at, Entries.flows_of, Entries.entry_numbers, Entries.place_of}
use Rattle.of_table.specs.Tables.{NumberedTables, numbered_at, tables_of}
use Rattle.of_groups.specs.{declared.group.Group.Group, Groups.bucket_at, Chains.chain, Liveness.chosen}
use Rattle.of_ports.specs.{declared.port.Port.Port, Ports.is_live_at}
use Rattle.of_datapath.specs.{Buffers.HeldFrames, Datapath.Forwarding, declared.datapath.Datapath.Datapath}
use Rattle.of_machine.specs.{declared.data.Count.Count, TheWorld.TheWorld, Renumbering.renumbered_count}

-- without the numbers
abbrev pub without_numbers : NumberedTables → List Group → List Port → HeldFrames → Forwarding
without_numbers n groups ports held = record { tables = tables_of n; groups = groups; ports = ports; held = held }

-- with them
pub record Contents : Type 0 where
  pub tables : NumberedTables
  pub groups : List Group
  pub ports : List Port
  pub held : HeldFrames

abbrev pub contents : NumberedTables → List Group → List Port → HeldFrames → Contents
contents n groups ports held = record { tables = n; groups = groups; ports = ports; held = held }

-- what a datapath holds: without the numbers, and with them
abbrev pub forwarding_of : {L : Type 0} → Datapath L → Forwarding
forwarding_of d = without_numbers d.tables d.groups d.ports d.held

abbrev pub contents_of : {L : Type 0} → Datapath L → Contents
contents_of d = contents d.tables d.groups d.ports d.held

-- the entries of a table
abbrev pub entries_at : NumberedTables → ℕ → List Entry
entries_at n t = (numbered_at t n).entries

-- the number of the entry at a place by age
abbrev pub entry_number_at : List Entry → ℕ → ℕ
entry_number_at entries place = slice_index (entry_numbers entries) place

abbrev pub numbered_winner : NumberedTables → ℕ → (Field → Option ℕ) → Option ℕ
numbered_winner n t fields = option_map (entry_number_at (entries_at n t)) (winner_place fields (flows_of (entries_at n t)))

abbrev pub numbered_flow : NumberedTables → ℕ → ℕ → Option Flow
numbered_flow n t number = flow_at (place_of number (entries_at n t)) (flows_of (entries_at n t))

-- what the machine sees of it
abbrev pub numbered_world : NumberedTables → List Group → List Port → TheWorld
numbered_world n groups ports = record { winner = numbered_winner n; flow = numbered_flow n; chosen = chosen groups (is_live_at ports); bucket = bucket_at groups; ports = ports; chain = chain groups }

-- the place by age of a number in a table
abbrev pub place_in : NumberedTables → ℕ → ℕ → ℕ
place_in n t number = place_of number (entries_at n t)

-- counts with these places for the numbers
abbrev pub placed_count : NumberedTables → Count → Count
placed_count n = renumbered_count (place_in n)

abbrev pub all_placed : NumberedTables → List Count → List Count
all_placed n counts = map (placed_count n) counts
