-- A SWITCH WITH A CONFIGURATION: a new one, to which ports were added whose links are up, and then the groups and flows (OpenFlow 1.3.5, 7.2.1).
use Rattle.std.specs.Prelude.{ℕ, ◌/◌, ◌%◌, ◌^◌, true, List, [], ◌∷◌, map, replicate}
use Rattle.of_text.specs.Configs.{Configuration}
use Rattle.of_switch.specs.{declared.event.Event.Event, declared.event.Event.TheVariants.Ports, declared.port_change.PortChange.TheVariants.Add, State.State, State.start, Runs.run, Loading.loaded}

abbrev pub byte_of : ℕ → ℕ → ℕ
byte_of place n = n / 2 ^ place % 2 ^ 8

-- port 1 has the address 02:00:00:00:00:01, and no name
abbrev pub port_up : ℕ → Event
port_up number = Ports (Add number (2 ∷ 0 ∷ byte_of 24 number ∷ byte_of 16 number ∷ byte_of 8 number ∷ byte_of 0 number ∷ []) (replicate 16 0) true)

abbrev pub switch_with : List ℕ → Configuration → State
switch_with ports config = loaded config (run (map port_up ports) (start 1)).state
