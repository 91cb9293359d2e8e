-- WHO CHANGED A VIEW: a row, or one of the controller's messages that a row completes.
use Rattle.std.specs.Prelude.{ℕ, List, Option, Some, None}
use Rattle.of_switch.specs.declared.event.Event.{Event}
use Rattle.of_switch.specs.declared.event.Event.TheVariants as events

pub data By : Type 0 where
  -- which one of the row, from 1
  Message : (number : ℕ) (bytes : List ℕ) → By
  -- a time, with lines about what expires then
  Moment : (expired : List ℕ) → By
  -- a port is added or removed, or its link changes
  Port : By
  -- another row
  Row : By

-- by the number of the line, from 1, and the line
pub record Cause : Type 0 where
  pub number : ℕ
  pub line : List ℕ
  pub by : By

-- a row in which these lines expire
abbrev pub by_row : List ℕ → Option Event → By
by_row expired (Some (events.Moment nanos)) = Moment expired
by_row expired (Some (events.Ports change)) = Port
by_row expired other = Row

-- a turn of a row: the row itself, or the message of that number in it
abbrev pub cause_of_turn : Cause → ℕ → Option (List ℕ) → Cause
cause_of_turn row k None = row
cause_of_turn row k (Some m) = record row { by = Message k m }
