-- Messages until there is none, and the run of any list of events.
use Rattle.std.specs.Prelude.{◌≡◌, ◌⊎◌, ℕ, ◌+◌, ◌<◌, suc, zero, List, [], ◌∷◌, ◌++◌, length, map, Option, Some, None, if◌then◌else◌, unwrap_or}
use Rattle.of_session.specs.Session.{is_disconnected}
use Rattle.of_switch.specs.declared.event.Event.TheVariants.{Connect, Lost, Chunk, Frame, Moment, Ports}
use Rattle.of_switch.specs.Steps.{Outcome, gives, connected, lost, fed, next_of, frame_in, moment_in, port_changed}
use Rattle.of_switch.specs.{declared.switch_error.SwitchError.SwitchError, declared.event.Event.Event, declared.event.Report.Report as Reported, State.State}
use Rattle.of_switch.specs.Calls.{connect_refusal, feed_refusal, port_refusal}
use Rattle.of_datapath.specs.declared.effect.Effect.{Effect}
use Rattle.of_switch.specs.declared.event.Report.TheVariants as reported

-- effects before those of an outcome
abbrev pub behind_effects : List Effect → Outcome → Outcome
behind_effects effects o = gives (effects ++ o.effects) o.state

-- nothing is left, or a message and then the rest
abbrev pub then_more : (State → Outcome) → State → Option Outcome → Outcome
then_more rest s None = gives [] s
then_more rest s (Some o) = behind_effects o.effects (rest o.state)

-- at most n messages
unfoldable pub drain : ℕ → State → Outcome
drain zero s = gives [] s
drain (suc n) s = then_more (drain n) s (next_of s)

-- all messages that are there: each takes at least one byte
abbrev pub drained : State → Outcome
drained s = drain (length s.connection.pending + 1) s

-- a chunk of the controller's bytes as one event
abbrev pub chunk_in : List ℕ → State → Outcome
chunk_in chunk s = drained (fed chunk s)

-- bytes that are received while there is a connection; without one they are lost
abbrev pub come : List ℕ → State → State
come chunk s = if is_disconnected s.connection.phase then s else fed chunk s

-- MESSAGES ONE BY ONE

-- the connection has these bytes alone
abbrev pub holding : List ℕ → State → State
holding bytes s = record s { connection = record s.connection { pending = bytes } }

-- these bytes alone are received: their first message is handled, or their malformed header; or they wait
abbrev pub handled_alone : List ℕ → State → Outcome
handled_alone bytes s = unwrap_or (next_of (holding bytes s)) (gives [] (holding bytes s))

-- one after the other, up to the one that ends the connection
abbrev pub handled_in_turn : List (List ℕ) → State → Outcome
handled_in_turn [] s = gives [] s
handled_in_turn (m ∷ ms) s =
    let first = handled_alone m s in
    behind_effects first.effects (if is_disconnected first.state.connection.phase then gives [] first.state else handled_in_turn ms first.state)

-- THE RUN OF A LIST OF EVENTS

-- an event gives effects, or is refused and changes nothing
pub data Report : Type 0 where
  Gives : (effects : List Effect) → Report
  IsRefused : (refusal : SwitchError) → Report

-- as the code keeps it
abbrev pub report_of : Reported → Report
report_of (reported.Gives effects) = Gives effects.items
report_of (reported.Refused refusal) = IsRefused refusal

abbrev pub reports_of : List Reported → List Report
reports_of reports = map report_of reports

pub record Happened : Type 0 where
  pub report : Report
  pub state : State

abbrev pub unless_refusal : Option SwitchError → State → Outcome → Happened
unless_refusal (Some refusal) s o = record { report = IsRefused refusal; state = s }
unless_refusal None s o = record { report = Gives o.effects; state = o.state }

abbrev pub happened : Event → State → Happened
happened Connect s = unless_refusal (connect_refusal s) s (connected s)
happened Lost s = unless_refusal None s (gives [] (lost s))
happened (Chunk bytes) s = unless_refusal (feed_refusal s) s (chunk_in bytes s)
happened (Frame port bytes) s = unless_refusal None s (frame_in port bytes s)
happened (Moment nanos) s = unless_refusal None s (moment_in nanos s)
happened (Ports change) s = unless_refusal (port_refusal change s) s (port_changed change s)

-- the reports of events in any order and number, and the switch after them
pub record Run : Type 0 where
  pub reports : List Report
  pub state : State

abbrev pub run : List Event → State → Run
run [] s = record { reports = []; state = s }
run (e ∷ es) s = let h = happened e s in let others = run es h.state in record { reports = h.report ∷ others.reports; state = others.state }

-- WHERE MEMORY RUNS OUT

abbrev pub effects_in : List Report → List Effect
effects_in [] = []
effects_in (Gives effects ∷ reports) = effects ++ effects_in reports
effects_in (IsRefused refusal ∷ reports) = effects_in reports

-- each is of what was given, and none of a refusal
abbrev pub AllGive : List Report → Type 0
AllGive [] = Unit {0}
AllGive (Gives effects ∷ reports) = AllGive reports
AllGive (IsRefused refusal ∷ reports) = ⊥

-- one at least, and each of what was given
abbrev pub IsReported : List Report → Type 0
IsReported more = (0 < length more) × AllGive more

-- a chunk was interrupted between two of its messages: those before gave what is reported, and what is left gives the rest
pub record IsBrokenOff (event : Event) (s t : State) (more : List Report) : Type 0 where
  pub bytes : List ℕ
  pub chunk : event ≡ Chunk bytes
  pub taken : feed_refusal s ≡ None
  pub reported : IsReported more
  pub left : chunk_in bytes s ≡ behind_effects (effects_in more) (drained t)

-- an event for which there was no memory did nothing, or is a chunk that was interrupted so
abbrev pub IsInterrupted : Event → State → State → List Report → Type 0
IsInterrupted event s t more = ((t ≡ s) × (more ≡ [])) ⊎ IsBrokenOff event s t more

-- what is left of an event that was interrupted: all of it, or the rest of a chunk, which waits and goes on with a chunk of no bytes
abbrev pub rest_of : Event → List Report → Event
rest_of event [] = event
rest_of event (r ∷ more) = Chunk []

-- events up to one that was interrupted
pub record StopsWithin (events : List Event) (s t : State) (reports reports' : List Report) : Type 0 where
  pub first : List Event
  pub event : Event
  pub others : List Event
  pub events_are : events ≡ first ++ event ∷ others
  pub more : List Report
  pub reports_are : reports' ≡ (reports ++ (run first s).reports) ++ more
  pub interrupted : IsInterrupted event (run first s).state t more

-- all events
pub record RunsAll (events : List Event) (s t : State) (reports reports' : List Report) : Type 0 where
  pub state : t ≡ (run events s).state
  pub reports_are : reports' ≡ reports ++ (run events s).reports
