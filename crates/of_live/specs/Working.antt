-- Parts of a turn, for contracts inside this crate.
use Rattle.std.specs.Prelude.{◌≡◌, ℕ, ◌≤◌, nat_lt, not, ◌&&◌, ◌||◌, ◌==◌, length, drop, map, Bool, true, false, List, [], ◌∷◌, ◌++◌, Option, Result, Ok, Err, if◌then◌else◌}
use Rattle.of_replay.specs.declared.halt.Halt.{Halt}
use Rattle.of_replay.specs.declared.halt.Halt.TheVariants.{Bad, Memory, Read, Write}
use Rattle.of_switch.specs.{declared.event.Event.Event, declared.event.Event.TheVariants.Chunk, State.State, Runs.Report, Runs.run, Runs.effects_in}
use Rattle.of_live.specs.Hearing.{Hearing, AreHandled, IsHearing, after_messages, events_of, after_hearing, wanted_of}
use Rattle.of_live.specs.Acts.{Act, Records, Told, Logs, Writes}
use Rattle.of_live.specs.Turns.{LiveTurn, IsLiveTurn, turn_acts, after_live_turn, closes, drops, live_effects, has_no_bytes, is_flooded, is_stuck, may_write, offered, results, rows_text}
use Rattle.of_live.specs.{declared.state.Asks.Asks, Inputs.Came, Inputs.Fault, Inputs.is_ready, Live.Live, Live.is_connected, Live.begun}

-- what events gave, and their rows
pub record LiveWork : Type 0 where
  pub reports : List Report
  pub text : List ℕ

abbrev pub logged_text : Bool → List Event → List ℕ
logged_text keeps events = if keeps then rows_text events else []

-- events happened to the switch
pub record Does (keeps : Bool) (events : List Event) (s s' : State) (w w' : LiveWork) : Type 0 where
  pub state_is : s' ≡ (run events s).state
  pub reports_are : w'.reports ≡ w.reports ++ (run events s).reports
  pub text_is : w'.text ≡ w.text ++ logged_text keeps events

-- messages were handled
pub record HandlesMessages (most : ℕ) (keeps : Bool) (l l' : Live) (w w' : LiveWork) : Type 0 where
  pub handled : List (List ℕ)
  pub are : AreHandled most handled l
  pub live_is : l' ≡ after_messages handled l
  pub does : Does keeps (map Chunk handled) l.state l'.state w w'

abbrev pub hearing_of : Came → List (List ℕ) → Hearing
hearing_of came handled = record { came = came; handled = handled }

-- what is known of the connection when what waits is offered to it
abbrev pub asks_by : Came → Live → Asks
asks_by came b = record { is_open = may_write came b; is_ready = is_ready came; is_empty = has_no_bytes b.waiting }

abbrev pub asks_of : Came → Live → Asks
asks_of came l = asks_by came (begun came l)

pub record Hears (came : Came) (keeps : Bool) (asks : Asks) (l l' : Live) (w' : LiveWork) : Type 0 where
  pub handled : List (List ℕ)
  pub are : IsHearing (hearing_of came handled) l
  pub live_is : l' ≡ after_hearing (hearing_of came handled) l
  pub asks_are : asks ≡ asks_of came l
  pub reports_are : effects_in w'.reports ≡ live_effects (hearing_of came handled) l
  pub text_is : w'.text ≡ logged_text keeps (events_of (hearing_of came handled) l)

-- OFFERING what waits
abbrev pub offers : Asks → Live → Bool
offers a l = a.is_open && not (has_no_bytes l.waiting) && (a.is_empty || a.is_ready)

abbrev pub offered_acts : Asks → ℕ → Bool → Live → List Act
offered_acts a taken failed l = if offers a l then Writes l.waiting taken failed ∷ [] else []

abbrev pub offered_to : Asks → ℕ → Live → Live
offered_to a taken l = record l {
  waiting = if offers a l then drop taken l.waiting else l.waiting;
  since = if a.is_empty || (offers a l && nat_lt 0 taken) then l.time else l.since;
}

-- and closing the connection
abbrev pub is_closing : Asks → Bool → Live → Bool
is_closing a failed l = a.is_open && ((failed || is_stuck l.waiting l.since l.time || is_flooded l.waiting) || not (is_connected l))

abbrev pub after_closing : Asks → Bool → Live → Live
after_closing a failed l = record l {
  unheard = if is_closing a failed l || not a.is_open then [] else l.unheard;
  waiting = if is_closing a failed l || not a.is_open then [] else l.waiting;
  over = is_closing a failed l && is_connected l;
}

pub record Settles (a : Asks) (l l' : Live) (old new : Option (List Act)) : Type 0 where
  pub taken : ℕ
  pub failed : Bool
  pub fits : taken ≤ length l.waiting
  pub live_is : l' ≡ after_closing a (offers a l && failed) (offered_to a taken l)
  pub told_is : Records old (offered_acts a taken failed l ++ closes (is_closing a (offers a l && failed) (offered_to a taken l))) new

-- the rows were written to the log, if there are any
abbrev pub logged : List ℕ → Bool → List Act
logged text whole = if length text == 0 then [] else Logs text whole ∷ []

-- what came was told, and all that it gives went out, or the run halts
abbrev pub live_turn_of : Came → List (List ℕ) → ℕ → Bool → LiveTurn
live_turn_of came handled taken failed = record { hearing = hearing_of came handled; taken = taken; failed = failed }

pub record GoesOut (keeps : Bool) (came : Came) (l l' : Live) (old new : Option (List Act)) : Type 0 where
  pub handled : List (List ℕ)
  pub taken : ℕ
  pub failed : Bool
  pub hears : IsHearing (hearing_of came handled) l
  pub fits : taken ≤ length (offered (hearing_of came handled) l)
  pub live_is : l' ≡ after_live_turn (live_turn_of came handled taken failed) l
  pub told_is : Records old (results keeps (live_turn_of came handled taken failed) l) new

abbrev pub Passes : Result (Unit {0}) Halt → Bool → Came → Live → Live → (old new : Option (List Act)) → Type 0
Passes (Ok u) keeps came l l' old new = GoesOut keeps came l l' old new
Passes (Err (Bad n)) keeps came l l' old new = ⊥
Passes (Err Memory) keeps came l l' old new = (some : Bool) × Records old (if some then drops came l else []) new
Passes (Err Read) keeps came l l' old new = ⊥
Passes (Err Write) keeps came l l' old new = (keeps ≡ true) × ((handled : List (List ℕ)) × (IsHearing (hearing_of came handled) l)
    × Records old (drops came l ++ Logs (rows_text (events_of (hearing_of came handled) l)) false ∷ []) new)

-- a turn, of which all went out
pub record GoesOn (keeps : Bool) (l l' : Live) (old new : Option (List Act)) : Type 0 where
  pub turn : LiveTurn
  pub is : IsLiveTurn turn l
  pub live_is : l' ≡ after_live_turn turn l
  pub told_is : Records old (turn_acts keeps turn l) new

-- or the run halts, and nothing of the turn goes out
abbrev pub LiveHalts : Halt → Bool → Live → Live → (old new : Option (List Act)) → Type 0
LiveHalts (Bad n) keeps l l' old new = ⊥
LiveHalts Memory keeps l l' old new = (came : Came) × (some : Bool) × (Records old (Told (wanted_of l) came ∷ (if some then drops came l else [])) new)
LiveHalts Read keeps l l' old new = (l' ≡ l) × (Records old (Told (wanted_of l) Fault ∷ []) new)
LiveHalts Write keeps l l' old new = (keeps ≡ true) × ((h : Hearing) × (IsHearing h l)
    × (Records old (Told (wanted_of l) h.came ∷ drops h.came l ++ Logs (rows_text (events_of h l)) false ∷ []) new))

abbrev pub Goes : Result (Unit {0}) Halt → Bool → Live → Live → (old new : Option (List Act)) → Type 0
Goes (Ok u) keeps l l' old new = GoesOn keeps l l' old new
Goes (Err halt) keeps l l' old new = LiveHalts halt keeps l l' old new
