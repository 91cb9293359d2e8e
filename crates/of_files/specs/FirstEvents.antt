-- THE EVENTS THAT GIVE A NEW SWITCH THE GROUPS AND FLOWS OF A CONFIGURATION: a controller connects, says HELLO, sends the messages that `asm` writes, and
-- is gone. And of those with which it only connects.
use Rattle.std.specs.Prelude.{List, [], ◌∷◌, ◌++◌, map}
use Rattle.of_text.specs.Configs.{Configuration}
use Rattle.of_build.specs.{Building.hello, Listing.messages_of}
use Rattle.of_switch.specs.{declared.event.Event.Event, declared.event.Event.TheVariants.Chunk, declared.event.Event.TheVariants.Connect, declared.event.Event.TheVariants.Lost, State.State}
use Rattle.of_switch.specs.Runs.{run}

abbrev pub connection_events : List Event
connection_events = Connect ∷ Chunk hello ∷ []

abbrev pub first_events : Configuration → List Event
first_events c = connection_events ++ map Chunk (messages_of c) ++ Lost ∷ []

-- the switch after a controller connected and said HELLO
abbrev pub with_controller : State → State
with_controller s = (run connection_events s).state
