-- A LIST OF CALLS OF A SWITCH, with what each answered; for some of them memory ran out.
use Rattle.std.specs.Prelude.{◌≡◌, ℕ, Bool, true, false, not, List, [], ◌∷◌, ◌++◌, map, filter, flat_map, Option, Some, None, IfNone, Result, Ok, Err}
use Rattle.std.specs.Option.{option_map}
use Rattle.smallvec.specs.SmallVec.{SmallVec}
use Rattle.of_datapath.specs.declared.effect.Effect.{Effect}
use Rattle.of_switch.specs.Steps.{gives, connected, lost, fed, next_of, frame_in, moment_in, port_changed}
use Rattle.of_switch.specs.{declared.event.Event.Event, declared.port_change.PortChange.PortChange, declared.switch_error.SwitchError.SwitchError}
use Rattle.of_switch.specs.{declared.switch_error.SwitchError.TheVariants.NoMemory, State.State, Loading.loaded, Calls.Call, Calls.connect_refusal, Calls.feed_refusal, Calls.port_refusal}
use Rattle.of_switch.specs.Runs.{Report, Gives, IsRefused}
use Rattle.of_switch.specs.declared.event.Event.TheVariants as event
use Rattle.of_text.specs.Configs.{Configuration}

-- a call that has effects answers them, or why it did nothing
abbrev pub CallAnswer : Type 0
CallAnswer = Result (SmallVec Effect) SwitchError

-- a call, with its arguments and what it answered
pub data Made : Type 0 where
  Connected : CallAnswer → Made
  Lost : Made
  Fed : List ℕ → Result (Unit {0}) SwitchError → Made
  Next : Result (Option (SmallVec Effect)) SwitchError → Made
  Frame : ℕ → List ℕ → CallAnswer → Made
  Moment : ℕ → CallAnswer → Made
  Changed : PortChange → CallAnswer → Made
  Loaded : Configuration → Result (Unit {0}) SwitchError → Made

-- WHAT A CALL DOES is what its function ensures
abbrev pub IsMade : Made → State → State → Type 0
IsMade (Connected answer) s t = Call (connect_refusal s) (λ effects new. connected s ≡ gives effects.items new) s answer t
IsMade Lost s t = t ≡ lost s
IsMade (Fed chunk answer) s t = Call (feed_refusal s) (λ _ new. new ≡ fed chunk s) s answer t
IsMade (Next answer) s t = Call None (λ found new. (next_of s ≡ option_map (λ effects. gives effects.items new) found) × IfNone found (new ≡ s)) s answer t
IsMade (Frame port frame answer) s t = Call None (λ effects new. frame_in port frame s ≡ gives effects.items new) s answer t
IsMade (Moment nanos answer) s t = Call None (λ effects new. moment_in nanos s ≡ gives effects.items new) s answer t
IsMade (Changed change answer) s t = Call (port_refusal change s) (λ effects new. port_changed change s ≡ gives effects.items new) s answer t
IsMade (Loaded configuration answer) s t = Call None (λ _ new. new ≡ loaded configuration s) s answer t

-- one after the other
abbrev pub AreMade : List Made → State → State → Type 0
AreMade [] s t = t ≡ s
AreMade (m ∷ calls) s t = (u : State) × IsMade m s u × AreMade calls u t

-- WHERE MEMORY RAN OUT, the call answered so

abbrev pub is_no_memory : SwitchError → Bool
is_no_memory NoMemory = true
is_no_memory other = false

abbrev pub found_no_memory : {A : Type 0} → Result A SwitchError → Bool
found_no_memory (Ok x) = false
found_no_memory (Err e) = is_no_memory e

abbrev pub ran_out : Made → Bool
ran_out (Connected answer) = found_no_memory answer
ran_out Lost = false
ran_out (Fed chunk answer) = found_no_memory answer
ran_out (Next answer) = found_no_memory answer
ran_out (Frame port frame answer) = found_no_memory answer
ran_out (Moment nanos answer) = found_no_memory answer
ran_out (Changed change answer) = found_no_memory answer
ran_out (Loaded configuration answer) = found_no_memory answer

-- the other calls
abbrev pub others : List Made → List Made
others calls = filter (λ m. not (ran_out m)) calls

-- EVENTS AS CALLS: one call for each; for a chunk it is fed, and then its messages are handled, one by one, until there is none

pub data Deed : Type 0 where
  Connects : CallAnswer → Deed
  Loses : Deed
  Sends : List ℕ → List (SmallVec Effect) → Deed
  IsUnheard : List ℕ → SwitchError → Deed
  Receives : ℕ → List ℕ → CallAnswer → Deed
  Waits : ℕ → CallAnswer → Deed
  Changes : PortChange → CallAnswer → Deed

abbrev pub handled_call : SmallVec Effect → Made
handled_call effects = Next (Ok (Some effects))

abbrev pub calls_of : Deed → List Made
calls_of (Connects answer) = Connected answer ∷ []
calls_of Loses = Lost ∷ []
calls_of (Sends chunk given) = Fed chunk (Ok tt) ∷ (map handled_call given ++ Next (Ok None) ∷ [])
calls_of (IsUnheard chunk refusal) = Fed chunk (Err refusal) ∷ []
calls_of (Receives port frame answer) = Frame port frame answer ∷ []
calls_of (Waits nanos answer) = Moment nanos answer ∷ []
calls_of (Changes change answer) = Changed change answer ∷ []

abbrev pub event_of : Deed → Event
event_of (Connects answer) = event.Connect
event_of Loses = event.Lost
event_of (Sends chunk given) = event.Chunk chunk
event_of (IsUnheard chunk refusal) = event.Chunk chunk
event_of (Receives port frame answer) = event.Frame port frame
event_of (Waits nanos answer) = event.Moment nanos
event_of (Changes change answer) = event.Ports change

abbrev pub report_for : CallAnswer → Report
report_for (Ok effects) = Gives effects.items
report_for (Err refusal) = IsRefused refusal

abbrev pub deed_report : Deed → Report
deed_report (Connects answer) = report_for answer
deed_report Loses = Gives []
deed_report (Sends chunk given) = Gives (flat_map (λ effects. effects.items) given)
deed_report (IsUnheard chunk refusal) = IsRefused refusal
deed_report (Receives port frame answer) = report_for answer
deed_report (Waits nanos answer) = report_for answer
deed_report (Changes change answer) = report_for answer
