-- The messages of a stream of bytes (OpenFlow 1.3.5, 6.3.2 and 7.1: the length in a header is that of the whole message).
use Rattle.std.specs.Prelude.{◌≡◌, ℕ, ◌+◌, ◌*◌, ◌<◌, ◌≤◌, ◌⊎◌, List, [], ◌∷◌, ◌++◌, length, slice_index, take, drop, nat_lt, if◌then◌else◌}
use Rattle.of_session.specs.declared.stream.Beginning.{Beginning}
use Rattle.of_session.specs.declared.stream.Beginning.TheVariants as front

-- what a header says of its message's length
abbrev pub length_of : List ℕ → ℕ
length_of bytes = 256 * slice_index bytes 2 + slice_index bytes 3

-- THE SPLIT OF A STREAM

-- a whole message
pub record IsWholeMessage (m : List ℕ) : Type 0 where
  pub header : 8 ≤ length m
  pub whole : length_of m ≡ length m

-- a header that no message has
pub record IsMalformed (bytes : List ℕ) : Type 0 where
  pub header : 8 ≤ length bytes
  pub short : length_of bytes < 8

-- shorter than a header, or than the next message
pub record IsPartial (bytes : List ℕ) : Type 0 where
  pub shorter : (length bytes < 8) ⊎ ((8 ≤ length_of bytes) × (length bytes < length_of bytes))

abbrev pub concat : List (List ℕ) → List ℕ
concat [] = []
concat (m ∷ ms) = m ++ concat ms

abbrev pub AreMessages : List (List ℕ) → Type 0
AreMessages [] = Unit {0}
AreMessages (m ∷ ms) = IsWholeMessage m × AreMessages ms

-- the stream is these messages, and then a rest that is malformed or too short
pub record Splits (stream : List ℕ) (messages : List (List ℕ)) (rest : List ℕ) : Type 0 where
  pub whole : stream ≡ concat messages ++ rest
  pub each : AreMessages messages
  pub ends : IsMalformed rest ⊎ IsPartial rest

-- THE FIRST MESSAGE

-- how bytes begin: with a message and what follows it, with a header that no message has, or with neither yet
pub data First : Type 0 where
  Whole : (message rest : List ℕ) → First
  Bad : First
  Partial : First

abbrev pub beginning_of : List ℕ → First
beginning_of bytes =
    if nat_lt (length bytes) 8 then Partial
    else (if nat_lt (length_of bytes) 8 then Bad
    else (if nat_lt (length bytes) (length_of bytes) then Partial
    else Whole (take (length_of bytes) bytes) (drop (length_of bytes) bytes)))

-- the same, where only the message's size is given
abbrev pub beginning_is : Beginning → List ℕ → First
beginning_is (front.Message n) bytes = Whole (take n bytes) (drop n bytes)
beginning_is front.Malformed bytes = Bad
beginning_is front.Waiting bytes = Partial

-- a message was received whole, with its header; so was a header that no message has
abbrev pub IsThere : Beginning → List ℕ → Type 0
IsThere (front.Message n) bytes = (8 ≤ n) × (n ≤ length bytes)
IsThere front.Malformed bytes = 8 ≤ length bytes
IsThere front.Waiting bytes = Unit {0}
