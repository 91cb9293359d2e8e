-- THE PATHS OF THE FRAMES OF EACH PORT, divided for each port apart (OpenFlow 1.3.5, 5.1): frames of one way that come in by one port go to the same places.
use Rattle.std.specs.Prelude.{◌≡◌, ℕ, List, [], ◌∷◌, ◌++◌, filter, map}
use Rattle.of_oxm.specs.declared.match_field.MatchField.{MatchField}
use Rattle.of_ports.specs.{declared.port.Port.Port, Ports.may_receive, Ports.number_of_port}
use Rattle.of_machine.specs.TheWorld.{TheWorld}
use Rattle.of_symbolic_run.specs.PortNumbers.{came_in_by}
use Rattle.of_paths.specs.{declared.path.Merging.Merging, declared.path.PathClass.PathClass, declared.path.Paths.Paths, declared.path.UndecidedFrames.UndecidedFrames, Paths.ArePaths}

-- the ports that receive, by number, in order
abbrev pub receiving_numbers : List Port → List ℕ
receiving_numbers ports = map number_of_port (filter may_receive ports)

-- the classes and the undecided sets of the first port, and then those of the others
abbrev pub ArePathsOfPorts : Merging → TheWorld → List MatchField → ℕ → List ℕ → List PathClass → List UndecidedFrames → Type 0
ArePathsOfPorts merging w within steps [] classes undecided = (classes ≡ []) × (undecided ≡ [])
ArePathsOfPorts merging w within steps (port ∷ ports) classes undecided =
    (own : Paths) × (others : List PathClass) × (further : List UndecidedFrames) × ArePaths merging w (came_in_by port ∷ within) steps own
    × ArePathsOfPorts merging w within steps ports others further × (classes ≡ own.classes.items ++ others) × (undecided ≡ own.undecided.items ++ further)
