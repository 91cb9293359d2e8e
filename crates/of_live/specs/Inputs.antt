-- WHAT COMES to a switch on a network: what the network tells at one time.
use Rattle.std.specs.Prelude.{ℕ, ◌≤◌, Bool, true, false, List, take}
use Rattle.of_switch.specs.declared.event.Event.{Event}
use Rattle.of_live.specs.{declared.network.Endpoint.Endpoint, declared.network.Input.Input}
use Rattle.of_live.specs.declared.network.Input.TheVariants as input

pub data Came : Type 0 where
  -- what the clock says, in nanoseconds
  Time : (now : ℕ) → Came
  -- a datagram, and where its sender receives
  Datagram : (from : Endpoint) → (bytes : List ℕ) → Came
  -- a controller connected, instead of the one before it
  Opened : Came
  -- bytes of the controller
  Heard : (bytes : List ℕ) → Came
  -- the end of its stream, or a read that failed
  Ended : Came
  -- its connection takes bytes again
  Ready : Came
  -- a row that somebody writes while the switch runs
  Row : (event : Event) → Came
  Nothing : Came
  -- the network failed
  Fault : Came

abbrev pub is_opened : Came → Bool
is_opened Opened = true
is_opened other = false

abbrev pub is_ready : Came → Bool
is_ready Ready = true
is_ready other = false

abbrev pub is_fault : Came → Bool
is_fault Fault = true
is_fault other = false

-- what an input tells, when the buffer is as the network left it
abbrev pub came_of : Input → List ℕ → Came
came_of (input.Time now) buffer = Time now
came_of (input.Datagram from n) buffer = Datagram from (take n buffer)
came_of input.Opened buffer = Opened
came_of (input.Heard n) buffer = Heard (take n buffer)
came_of input.Ended buffer = Ended
came_of input.Ready buffer = Ready
came_of (input.Row event) buffer = Row event
came_of input.Nothing buffer = Nothing
came_of input.Fault buffer = Fault

-- bytes are in the buffer
abbrev pub IsInput : Input → Type 0
IsInput (input.Datagram from n) = n ≤ 65536
IsInput (input.Heard n) = n ≤ 65536
IsInput other = Unit {0}
