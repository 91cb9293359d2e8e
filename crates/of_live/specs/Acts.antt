-- WHAT PASSES between a switch and its network, in order.
use Rattle.std.specs.Prelude.{◌≡◌, ℕ, Bool, List, ◌++◌, Option, Some, None as Nobody}
use Rattle.of_live.specs.{declared.network.Endpoint.Endpoint, declared.network.Dropped.Dropped, declared.network.Wanted.Wanted, Inputs.Came}

pub data Act : Type 0 where
  -- the switch wanted this, and the network told that
  Told : (wanted : Wanted) → (came : Came) → Act
  -- a datagram, or a frame that should leave, was dropped
  Drops : (why : Dropped) → Act
  -- these rows were to be written to the log, and were or were not
  Logs : (rows : List ℕ) → (whole : Bool) → Act
  -- a datagram was sent
  Sends : (to : Endpoint) → (datagram : List ℕ) → Act
  -- the connection was offered these bytes, took the first of them, and failed or did not
  Writes : (bytes : List ℕ) → (taken : ℕ) → (failed : Bool) → Act
  -- the connection was closed
  Closes : Act

-- then this passed, as far as it is known what did: whoever records it may stop, and not begin again
abbrev pub Records : (old : Option (List Act)) → List Act → (new : Option (List Act)) → Type 0
Records Nobody passed new = new ≡ Nobody
Records (Some before) passed Nobody = Unit {0}
Records (Some before) passed (Some all) = all ≡ before ++ passed
