-- THE TURNS OF A ROW: a row of the controller's bytes has one for each message that it completes, and any other row that happens is one itself. A row
-- that is refused has none, nor have an empty line and a comment.
use Rattle.std.specs.Prelude.{◌≡◌, ℕ, ◌+◌, max, zero, suc, Bool, true, false, List, [], ◌∷◌, length, take, Option, Some, None}
use Rattle.of_session.specs.Stream.{length_of}
use Rattle.of_datapath.specs.declared.effect.Effect.{Effect}
use Rattle.of_switch.specs.declared.event.Event.TheVariants.{Connect, Lost, Chunk, Frame, Moment, Ports}
use Rattle.of_switch.specs.{declared.event.Event.Event, declared.switch_error.SwitchError.SwitchError, State.State, Steps.Outcome, Steps.fed, Steps.gives, Steps.next_of, Calls.feed_refusal}
use Rattle.of_switch.specs.Runs.{Report, Gives, IsRefused, happened}

-- a message, or nothing where the row itself happens; and the switch after it
pub record Turn : Type 0 where
  pub message : Option (List ℕ)
  pub after : State

-- the bytes that are handled first: as many as their header says, and the header at least (7.1)
abbrev pub first_handled : List ℕ → List ℕ
first_handled pending = take (max 8 (length_of pending)) pending

-- none, or a message and then the rest
abbrev pub turn_and : (State → List Turn) → State → Option Outcome → List Turn
turn_and rest s None = []
turn_and rest s (Some o) = record { message = Some (first_handled s.connection.pending); after = o.state } ∷ rest o.state

-- of at most n messages
unfoldable pub message_turns : ℕ → State → List Turn
message_turns zero s = []
message_turns (suc n) s = turn_and (message_turns n) s (next_of s)

-- of all that are there: each takes at least one byte
abbrev pub all_message_turns : State → List Turn
all_message_turns s = message_turns (length s.connection.pending + 1) s

abbrev pub chunk_turns : List ℕ → State → Option SwitchError → List Turn
chunk_turns bytes s (Some refusal) = []
chunk_turns bytes s None = all_message_turns (fed bytes s)

abbrev pub turn_of : Report → State → List Turn
turn_of (IsRefused refusal) after = []
turn_of (Gives effects) after = record { message = None; after = after } ∷ []

abbrev pub event_turns : Event → State → List Turn
event_turns (Chunk bytes) s = chunk_turns bytes s (feed_refusal s)
event_turns Connect s = turn_of (happened Connect s).report (happened Connect s).state
event_turns Lost s = turn_of (happened Lost s).report (happened Lost s).state
event_turns (Frame port frame) s = turn_of (happened (Frame port frame) s).report (happened (Frame port frame) s).state
event_turns (Moment nanos) s = turn_of (happened (Moment nanos) s).report (happened (Moment nanos) s).state
event_turns (Ports change) s = turn_of (happened (Ports change) s).report (happened (Ports change) s).state

abbrev pub row_turns : State → Option Event → List Turn
row_turns s None = []
row_turns s (Some event) = event_turns event s

-- the switch after turns
abbrev pub after_turns : State → List Turn → State
after_turns s [] = s
after_turns s (t ∷ ts) = after_turns t.after ts

-- ---- for contracts inside this crate

-- the first message was handled, which had these bytes; or there is none
abbrev pub HandlesFirst : Bool → State → State → List ℕ → Type 0
HandlesFirst false s new message = (next_of s ≡ None) × (new ≡ s)
HandlesFirst true s new message = (effects : List Effect) × (next_of s ≡ Some (gives effects new)) × (message ≡ first_handled s.connection.pending)
