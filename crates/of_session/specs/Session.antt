-- A controller's connection (OpenFlow 1.3.5, 6.3.1): its phase, and what comes next.
use Rattle.std.specs.Prelude.{◌≡◌, ℕ, ◌==◌, ◌&&◌, Bool, true, false, ◌≤◌, List, [], ◌++◌, length, take, drop, Result, Ok, Err, if◌then◌else◌}
use Rattle.of_wire.specs.declared.code.Code.{Code}
use Rattle.of_messages.specs.{declared.message.Message.Message, declared.role.Role.Role, Heads.type_of, Heads.xid_of, Hellos.version_by, Messages.message_from, Promised.IsSoundMessage}
use Rattle.of_formats.specs.declared.messages.TheConstants.{HELLO}
use Rattle.of_session.specs.declared.session.Next.TheVariants.{Nothing, BadStream, NotHello, Opened, Read, Refused}
use Rattle.of_session.specs.Stream.{First, Whole, Bad, Partial, beginning_of}
use Rattle.of_session.specs.{declared.session.Phase.Phase, declared.session.Phase.TheVariants.Disconnected, declared.session.Phase.TheVariants.Greeting, declared.session.Phase.TheVariants.Open}
use Rattle.of_session.specs.declared.session.Next.{Next}

-- its phase, and the bytes that were received and not yet handled
pub record Connection : Type 0 where
  pub phase : Phase
  pub pending : List ℕ

abbrev pub is_disconnected : Phase → Bool
is_disconnected Disconnected = true
is_disconnected Greeting = false
is_disconnected Open = false

-- no connection; a new one
abbrev pub alone : Connection
alone = record { phase = Disconnected; pending = [] }

abbrev pub greeting : Connection
greeting = record { phase = Greeting; pending = [] }

-- bytes are received
abbrev pub with_received : List ℕ → Connection → Connection
with_received chunk c = record c { pending = c.pending ++ chunk }

-- the first message is accepted if it is a HELLO that agrees to version 4
abbrev pub is_first_hello : List ℕ → Bool
is_first_hello m = type_of m == HELLO && version_by m == 4

abbrev pub next_greeting : List ℕ → Next
next_greeting m = if is_first_hello m then Opened (length m) else NotHello (xid_of m)

-- a message of an open connection
abbrev pub read_as : List ℕ → Result Message Code → Next
read_as m (Ok message) = Read (xid_of m) (length m) message
read_as m (Err code) = Refused (xid_of m) (length m) code

abbrev pub judged : Role → Phase → List ℕ → Next
judged role Disconnected m = next_greeting m
judged role Greeting m = next_greeting m
judged role Open m = read_as m (message_from role m)

abbrev pub next_by_beginning : Role → Connection → First → Next
next_by_beginning role c Partial = Nothing
next_by_beginning role c Bad = BadStream (xid_of (take 8 c.pending))
next_by_beginning role c (Whole m rest) = judged role c.phase m

-- WHAT COMES NEXT of a controller of that role: the first whole message, or a malformed header, or neither; without a connection nothing does
abbrev pub next_of_connection : Role → Connection → Next
next_of_connection role c = if is_disconnected c.phase then Nothing else next_by_beginning role c (beginning_of c.pending)

-- without its first message
abbrev pub message_taken : ℕ → Connection → Connection
message_taken size c = record c { pending = drop size c.pending }

-- its HELLO opens it
abbrev pub opened : ℕ → Connection → Connection
opened size c = record { phase = Open; pending = drop size c.pending }

-- the connection after that: the message is taken, and at a fault of the stream or of the greeting the connection ends
abbrev pub entered : Next → Connection → Connection
entered Nothing c = c
entered (BadStream xid) c = alone
entered (NotHello xid) c = alone
entered (Opened size) c = opened size c
entered (Read xid size message) c = message_taken size c
entered (Refused xid size code) c = message_taken size c

-- the bytes that it covers were received
abbrev pub IsNextReceived : Next → Connection → Type 0
IsNextReceived Nothing c = Unit {0}
IsNextReceived (BadStream xid) c = 8 ≤ length c.pending
IsNextReceived (NotHello xid) c = Unit {0}
IsNextReceived (Opened size) c = size ≤ length c.pending
IsNextReceived (Read xid size message) c = size ≤ length c.pending
IsNextReceived (Refused xid size code) c = size ≤ length c.pending

-- a message of n bytes, or what ends the connection
abbrev pub IsNextSized : Next → ℕ → Type 0
IsNextSized Nothing n = ⊥
IsNextSized (BadStream xid) n = ⊥
IsNextSized (NotHello xid) n = Unit {0}
IsNextSized (Opened size) n = size ≡ n
IsNextSized (Read xid size message) n = size ≡ n
IsNextSized (Refused xid size code) n = size ≡ n

-- what holds for each message that was read
abbrev pub IsSoundNext : Next → Type 0
IsSoundNext (Read xid size message) = IsSoundMessage message
IsSoundNext other = Unit {0}
