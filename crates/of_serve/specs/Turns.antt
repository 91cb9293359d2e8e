-- Turns of a switch that serves a controller (OpenFlow 1.3.5, 6.3).
use Rattle.std.specs.Prelude.{◌≡◌, ◌<◌, ℕ, ◌+◌, suc, zero, nat_lt, Bool, true, false, List, [], ◌∷◌, ◌++◌, length, Option, None as Never, if◌then◌else◌}
use Rattle.std.specs.List.{flat_map}
use Rattle.of_session.specs.Session.{is_disconnected}
use Rattle.of_datapath.specs.{declared.effect.Effect.Effect, declared.effect.Effect.TheVariants.Answer as Answers, declared.effect.Effect.TheVariants.Sent, declared.effect.Effect.TheVariants.Closed}
use Rattle.of_switch.specs.Runs.{Report, Gives, IsRefused, Happened, happened, come, drain, unless_refusal}
use Rattle.of_switch.specs.declared.event.Event.{Event}
use Rattle.of_switch.specs.declared.event.Event.TheVariants.{Connect, Lost, Chunk, Moment}
use Rattle.of_switch.specs.{State.State, Steps.Outcome, Steps.gives}
use Rattle.of_replay.specs.Told.{Answer, Gave, Idle, Ended, Failed}
use Rattle.of_replay.specs.Output.{line_of}
use Rattle.of_serve.specs.Told.{PeerCame, accept_came, Answered, then_begun, then_onto}
use Rattle.of_serve.specs.declared.peers.Accepted.{Accepted}
use Rattle.of_serve.specs.declared.peers.Accepted.TheVariants as accepted

-- ROWS OF THE FILE THAT ARE DUE: those before the first `t` row that the clock has not reached

-- the clock has not reached this `t` row
abbrev pub waits : ℕ → Event → Bool
waits now (Moment nanos) = nat_lt now nanos
waits now other = false

-- a `t` row itself does nothing: moments come from the clock
abbrev pub events_of_row : Event → List Event
events_of_row (Moment nanos) = []
events_of_row event = event ∷ []

abbrev pub due : ℕ → List Event → List Event
due now [] = []
due now (row ∷ rows) = if waits now row then [] else events_of_row row ++ due now rows

-- and those that are still to come
abbrev pub left : ℕ → List Event → List Event
left now [] = []
left now (row ∷ rows) = if waits now row then row ∷ rows else left now rows

-- THE EVENTS OF A TURN

-- what a turn learns: without a connection what an accept answers; with one the time, and then what a read answers
pub data Input : Type 0 where
  Accepts : (accepted : Accepted) → Input
  Reads : (now : ℕ) → (answer : Answer) → Input

abbrev pub opening_events : Accepted → List Event
opening_events accepted.Open = Connect ∷ []
opening_events accepted.Nothing = []
opening_events accepted.Fault = []

-- the end of a stream is the loss of its connection, and so is a read that fails
abbrev pub heard : Answer → List Event
heard (Gave bytes) = Chunk bytes ∷ []
heard Idle = []
heard Ended = Lost ∷ []
heard Failed = Lost ∷ []

abbrev pub input_events : Input → List Event → List Event
input_events (Accepts accepted) rows = opening_events accepted
input_events (Reads now answer) rows = Moment now ∷ (due now rows ++ heard answer)

abbrev pub rows_after_input : Input → List Event → List Event
rows_after_input (Accepts accepted) rows = rows
rows_after_input (Reads now answer) rows = left now rows

-- a write that failed is the loss of the connection
abbrev pub broken : Bool → List Event
broken true = Lost ∷ []
broken false = []

-- WHAT THEY GIVE

abbrev pub report_effects : Report → List Effect
report_effects (Gives effects) = effects
report_effects (IsRefused refusal) = []

-- the bytes for the connection
abbrev pub answer_in : Effect → List ℕ
answer_in (Answers bytes) = bytes
answer_in (Sent port frame) = []
answer_in Closed = []

-- and the line for the output
abbrev pub line_in : Effect → List ℕ
line_in (Answers bytes) = []
line_in (Sent port frame) = line_of (Sent port frame)
line_in Closed = []

-- the switch, and what is still to be written
pub record Gathered : Type 0 where
  pub state : State
  pub answers : List ℕ
  pub lines : List ℕ

abbrev pub nothing_pending : State → Gathered
nothing_pending s = record { state = s; answers = []; lines = [] }

abbrev pub gather : Happened → Gathered → Gathered
gather h g = record {
  state = h.state;
  answers = g.answers ++ flat_map answer_in (report_effects h.report);
  lines = g.lines ++ flat_map line_in (report_effects h.report);
}

-- events, one after the other, as the abstract switch does them
abbrev pub gathered : List Event → Gathered → Gathered
gathered [] g = g
gathered (e ∷ es) g = gathered es (gather (happened e g.state) g)

-- A TURN

-- the switch, and the rows of the file that are still to come
pub record ServeState : Type 0 where
  pub state : State
  pub rows : List Event

abbrev pub standing : State → List Event → ServeState
standing state rows = record { state = state; rows = rows }

-- what a turn learns, what the connection took in it, and whether a write failed
pub record ServeTurn : Type 0 where
  pub input : Input
  pub taken : List ℕ
  pub broke : Bool

abbrev pub given_by_input : Input → ServeState → Gathered
given_by_input input s = gathered (input_events input s.rows) (nothing_pending s.state)

abbrev pub after_serve_turn : ServeTurn → ServeState → ServeState
after_serve_turn t s = record { state = (gathered (broken t.broke) (given_by_input t.input s)).state; rows = rows_after_input t.input s.rows }

-- a turn without a connection accepts, and one with a connection reads
abbrev pub IsServeInput : Input → State → Type 0
IsServeInput (Accepts accepted) s = is_disconnected s.connection.phase ≡ true
IsServeInput (Reads now answer) s = is_disconnected s.connection.phase ≡ false

-- all answers were taken; or a write failed, and a byte or more at the end was not
abbrev pub IsTaken : Bool → List ℕ → List ℕ → Type 0
IsTaken false taken answers = taken ≡ answers
IsTaken true taken answers = (rest : List ℕ) × (0 < length rest) × (taken ++ rest ≡ answers)

-- how many writes failed in a turn: after one that failed no other is made
abbrev pub failures : Bool → ℕ
failures false = 0
failures true = 1

pub record IsServeTurn (t : ServeTurn) (s : ServeState) : Type 0 where
  pub input : IsServeInput t.input s.state
  pub taken : IsTaken t.broke t.taken (given_by_input t.input s).answers

-- A TURN THAT MEMORY CUT SHORT

abbrev pub whole : Event → State → Outcome
whole e s = let h = happened e s in gives (report_effects h.report) h.state

-- AN EVENT IN STEPS, the first n of them: a chunk is received, and then its messages are handled, one a step; any other
-- event is one step
abbrev pub partly : ℕ → Event → State → Outcome
partly zero e s = gives [] s
partly (suc n) (Chunk bytes) s = drain n (come bytes s)
partly (suc n) other s = whole other s

-- Memory ran out in one of some events: those before it were done, and some steps of it. One step more may have been done,
-- and then there was no memory for what it gave.
pub record Cut : Type 0 where
  pub done : List Event
  pub event : Event
  pub steps : ℕ
  -- whether there was that one more, of which nothing is told
  pub untold : Bool
  pub others : List Event

-- the events
abbrev pub cut_events : Cut → List Event
cut_events c = c.done ++ c.event ∷ c.others

-- what is told of them
abbrev pub cut_from : Cut → Gathered → Gathered
cut_from c g = let d = gathered c.done g in gather (unless_refusal Never d.state (partly c.steps c.event d.state)) d

-- and the switch then, with the step of which nothing is told
abbrev pub cut_state : Cut → Gathered → State
cut_state c g = let s = (gathered c.done g).state in (partly (if c.untold then suc c.steps else c.steps) c.event s).state

-- what the turn had learned: all, or the time alone, before it read
pub data TurnKnowledge : Type 0 where
  Time : (now : ℕ) → TurnKnowledge
  All : (input : Input) → TurnKnowledge

abbrev pub IsTurnKnowledge : TurnKnowledge → State → Type 0
IsTurnKnowledge (Time now) s = is_disconnected s.connection.phase ≡ false
IsTurnKnowledge (All input) s = IsServeInput input s

abbrev pub known_events : TurnKnowledge → List Event → List Event
known_events (Time now) rows = Moment now ∷ due now rows
known_events (All input) rows = input_events input rows

-- and what the connection took of its answers, and whether a write failed
pub record CutTurn : Type 0 where
  pub known : TurnKnowledge
  pub cut : Cut
  pub taken : List ℕ
  pub broke : Bool

abbrev pub cut_given : Cut → ServeState → Gathered
cut_given c s = cut_from c (nothing_pending s.state)

-- the switch after it
abbrev pub cut_after : CutTurn → ServeState → State
cut_after t s = (gathered (broken t.broke) (nothing_pending (cut_state t.cut (nothing_pending s.state)))).state

pub record IsCutTurn (t : CutTurn) (s : ServeState) : Type 0 where
  pub known : IsTurnKnowledge t.known s.state
  pub events : cut_events t.cut ≡ known_events t.known s.rows
  pub taken : IsTaken t.broke t.taken (cut_given t.cut s).answers

-- TURNS, one after the other

pub data ServeTurns : Type 0 where
  None : ServeTurns
  Then : (first : ServeTurns) → (last : ServeTurn) → ServeTurns

abbrev pub serve_turn_count : ServeTurns → ℕ
serve_turn_count None = 0
serve_turn_count (Then ts t) = serve_turn_count ts + 1

abbrev pub after_serve_turns : ServeState → ServeTurns → ServeState
after_serve_turns s None = s
after_serve_turns s (Then ts t) = after_serve_turn t (after_serve_turns s ts)

abbrev pub AreServeTurns : ServeState → ServeTurns → Type 0
AreServeTurns s None = Unit {0}
AreServeTurns s (Then ts t) = AreServeTurns s ts × IsServeTurn t (after_serve_turns s ts)

-- what peers answered in them
abbrev pub came_in : Input → List PeerCame
came_in (Accepts accepted) = accept_came accepted ∷ []
came_in (Reads now answer) = Answered answer ∷ []

abbrev pub turns_came : ServeTurns → List PeerCame
turns_came None = []
turns_came (Then ts t) = turns_came ts ++ came_in t.input

abbrev pub known_came : TurnKnowledge → List PeerCame
known_came (Time now) = []
known_came (All input) = came_in input

-- what the clock said
abbrev pub time_in : Input → List ℕ
time_in (Accepts accepted) = []
time_in (Reads now answer) = now ∷ []

abbrev pub times : ServeTurns → List ℕ
times None = []
times (Then ts t) = times ts ++ time_in t.input

abbrev pub known_times : TurnKnowledge → List ℕ
known_times (Time now) = now ∷ []
known_times (All input) = time_in input

-- what connections took
abbrev pub then_in : Option (List (List ℕ)) → Input → Option (List (List ℕ))
then_in known (Accepts accepted) = then_begun known accepted
then_in known (Reads now answer) = known

abbrev pub then_known : Option (List (List ℕ)) → TurnKnowledge → Option (List (List ℕ))
then_known known (Time now) = known
then_known known (All input) = then_in known input

abbrev pub took : Option (List (List ℕ)) → ServeTurns → Option (List (List ℕ))
took known None = known
took known (Then ts t) = then_onto (then_in (took known ts) t.input) t.taken

-- how many writes to them failed
abbrev pub breaks : ServeTurns → ℕ
breaks None = 0
breaks (Then ts t) = breaks ts + failures t.broke

-- the lines of the frames that the switch sent
abbrev pub sent_lines : ServeState → ServeTurns → List ℕ
sent_lines s None = []
sent_lines s (Then ts t) = sent_lines s ts ++ (given_by_input t.input (after_serve_turns s ts)).lines
