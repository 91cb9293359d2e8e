-- THE PATHS THAT ARE ASKED FOR: those of the frames that come in by a port, if one is given, and that conditions match. If only paths are told that lead
-- to a place, the frames of each port are divided apart, since FLOOD, ALL and IN_PORT lead elsewhere for each (OpenFlow 1.3.5, 5.12).
use Rattle.std.specs.Prelude.{ℕ, List, ◌∷◌, Option, None, Some}
use Rattle.of_oxm.specs.declared.match_field.MatchField.{MatchField}
use Rattle.of_machine.specs.TheWorld.{TheWorld}
use Rattle.of_symbolic_run.specs.PortNumbers.{came_in_by}
use Rattle.of_paths.specs.{declared.destination.Destination.Destination, declared.path.Merging.Merging, declared.path.Paths.Paths, EachPort.ArePathsOfPorts, EachPort.receiving_numbers}
use Rattle.of_paths.specs.Paths.{ArePaths}
use Rattle.of_paths_report.specs.declared.asked.Asked.{Asked}

-- by the port and the place that are asked for
abbrev pub ArePathsFor : Option ℕ → Option Destination → Merging → TheWorld → List MatchField → ℕ → Paths → Type 0
ArePathsFor (Some port) to merging w within steps found = ArePaths merging w (came_in_by port ∷ within) steps found
ArePathsFor None None merging w within steps found = ArePaths merging w within steps found
ArePathsFor None (Some to) merging w within steps found = ArePathsOfPorts merging w within steps (receiving_numbers w.ports) found.classes.items found.undecided.items

abbrev pub AreAskedPaths : TheWorld → Asked → Paths → Type 0
AreAskedPaths w asked found = ArePathsFor asked.port asked.to asked.merging w asked.within.items asked.steps found
