-- Parts of a turn, for contracts inside this crate.
use Rattle.std.specs.Prelude.{◌≡◌, ◌⊎◌, ◌≤◌, ◌<◌, ◌+◌, ℕ, suc, Bool, true, false, List, [], ◌∷◌, ◌++◌, length, Option, Some, None as Never, Result, Ok, Err, OnOk, OnErr, if◌then◌else◌}
use Rattle.std.specs.{List.flat_map, declared.alloc.AllocError.AllocError, Io.KnownBytes.Appends}
use Rattle.of_switch.specs.{declared.event.Event.Event, declared.event.Event.TheVariants.Chunk, declared.event.Event.TheVariants.Moment, State.State, Steps.Outcome, Steps.next_of}
use Rattle.of_switch.specs.Runs.{unless_refusal, drain, drained}
use Rattle.of_replay.specs.declared.halt.Halt.{Halt}
use Rattle.of_replay.specs.declared.halt.Halt.TheVariants.{Bad, Memory, Read as ReadHalt, Write}
use Rattle.of_replay.specs.{Told.Answer, Transfer.WrotePrefix}
use Rattle.of_serve.specs.Told.{PeerCame, accept_came, Answered, then_told, then_begun, then_onto}
use Rattle.of_serve.specs.Turns.{Gathered, gather, gathered, answer_in, line_in, nothing_pending, broken, heard, opening_events, due, left, input_events, Reads, ServeState, ServeTurn, IsTaken, failures, IsServeTurn, given_by_input, after_serve_turn, Input, IsServeInput, rows_after_input, came_in, time_in, then_in, Cut, cut_events, cut_from, cut_state, TurnKnowledge, IsTurnKnowledge, known_events, known_came, known_times, then_known, CutTurn, cut_given, ServeTurns, None, AreServeTurns, serve_turn_count, after_serve_turns, turns_came, times, took, breaks, sent_lines}
use Rattle.of_serve.specs.{declared.peers.Accepted.Accepted, Serves.Tells, Serves.CutShort}
use Rattle.of_serve.specs.declared.peers.Accepted.TheVariants as accepted

-- memory ran out in these events, after which this is gathered
pub record CutIn (events : List Event) (g g' : Gathered) : Type 0 where
  pub cut : Cut
  pub events_are : cut_events cut ≡ events
  pub answers_are : g'.answers ≡ (cut_from cut g).answers
  pub lines_are : g'.lines ≡ (cut_from cut g).lines
  pub state_is : g'.state ≡ cut_state cut g

-- the message that comes next was handled; or there is none
abbrev pub HandlesNext : Bool → Gathered → Gathered → Type 0
HandlesNext true g g' = (o : Outcome) × (next_of g.state ≡ Some o) × (g' ≡ gather (unless_refusal Never g.state o) g)
HandlesNext false g g' = (next_of g.state ≡ Never) × (g' ≡ g)

-- all messages were handled
abbrev pub HandlesAll : Gathered → Gathered → Type 0
HandlesAll g g' = g' ≡ gather (unless_refusal Never g.state (drained g.state)) g

-- an event that is no chunk is done at once
abbrev pub is_one_step : Event → Bool
is_one_step (Chunk bytes) = false
is_one_step other = true

-- memory ran out in the next message: it was not handled, or it was, and nothing of it is told
abbrev pub LosesNext : Gathered → Gathered → Type 0
LosesNext g g' = (g'.answers ≡ g.answers) × (g'.lines ≡ g.lines)
    × ((g'.state ≡ g.state) ⊎ ((o : Outcome) × (next_of g.state ≡ Some o) × (g'.state ≡ o.state)))

-- `messages` of them were handled, and perhaps one more, of which nothing is told
pub record HandlesSome (g g' : Gathered) : Type 0 where
  pub messages : ℕ
  pub untold : Bool
  pub state_is : g'.state ≡ (drain (if untold then suc messages else messages) g.state).state
  pub answers_are : g'.answers ≡ g.answers ++ flat_map answer_in (drain messages g.state).effects
  pub lines_are : g'.lines ≡ g.lines ++ flat_map line_in (drain messages g.state).effects

-- a read was made, and what it gave was handled, or memory ran out in that
pub record HandlesRead (result : Result (Unit {0}) AllocError) (g g' : Gathered) (came came' : Option (List PeerCame)) : Type 0 where
  pub answer : Answer
  pub came_is : came' ≡ then_told came (Answered answer ∷ [])
  pub handled : OnOk result (g' ≡ gathered (heard answer) g)
  pub cut : OnErr result (CutIn (heard answer) g g')

-- a turn with a connection: the clock told the time, one read was made, and the events of both were handled
pub record TellsReads (g g' : Gathered) (rows rest : List Event) (came came' : Option (List PeerCame)) (times times' : Option (List ℕ)) : Type 0 where
  pub now : ℕ
  pub answer : Answer
  pub came_is : came' ≡ then_told came (Answered answer ∷ [])
  pub times_are : times' ≡ then_told times (now ∷ [])
  pub handled : g' ≡ gathered (input_events (Reads now answer) rows) g
  pub rest_is : rest ≡ left now rows

-- memory ran out in such a turn, before the read or after it
pub record CutsReads (g g' : Gathered) (rows : List Event) (came came' : Option (List PeerCame)) (times times' : Option (List ℕ)) : Type 0 where
  pub now : ℕ
  pub times_are : times' ≡ then_told times (now ∷ [])
  pub cut : ((came' ≡ came) × CutIn (Moment now ∷ due now rows) g g')
      ⊎ ((answer : Answer) × (came' ≡ then_told came (Answered answer ∷ [])) × CutIn (input_events (Reads now answer) rows) g g')

-- an accept was made, and what it gave was handled
abbrev pub Opens : Result (Unit {0}) Halt → Gathered → Gathered → (came came' : Option (List PeerCame)) → (took took' : Option (List (List ℕ))) → Type 0
Opens (Ok u) g g' came came' took took' = (a : Accepted) × (came' ≡ then_told came (accept_came a ∷ [])) × (took' ≡ then_begun took a) × (g' ≡ gathered (opening_events a) g)
Opens (Err (Bad n)) g g' came came' took took' = ⊥
Opens (Err Memory) g g' came came' took took' =
    (came' ≡ then_told came (accept_came accepted.Open ∷ [])) × (took' ≡ then_begun took accepted.Open) × CutIn (opening_events accepted.Open) g g'
Opens (Err ReadHalt) g g' came came' took took' = (came' ≡ then_told came (accept_came accepted.Fault ∷ [])) × (took' ≡ took) × (g' ≡ g)
Opens (Err Write) g g' came came' took took' = ⊥

abbrev pub OrMemory : Result (Unit {0}) AllocError → Result (Unit {0}) Halt → Type 0
OrMemory (Ok u) result = result ≡ Ok tt
OrMemory (Err e) result = result ≡ Err Memory

-- bytes were taken by the connection, all of them where no write failed
abbrev pub TakesAnswers : Bool → List ℕ → (took took' : Option (List (List ℕ))) → Type 0
TakesAnswers true bytes took took' = took' ≡ then_onto took bytes
TakesAnswers false bytes took took' = (front : List ℕ) × (rest : List ℕ) × (0 < length rest) × (front ++ rest ≡ bytes) × (took' ≡ then_onto took front)

abbrev pub failed_writes : Bool → ℕ
failed_writes true = 0
failed_writes false = 1

-- the accept or the read of a turn was made, and what it gave was handled
pub record Learns (s : ServeState) (g : Gathered) (rest : List Event) (old new : Tells) : Type 0 where
  pub input : Input
  pub is_input : IsServeInput input s.state
  pub handled : g ≡ given_by_input input s
  pub rest_is : rest ≡ rows_after_input input s.rows
  pub came_is : new.came ≡ then_told old.came (came_in input)
  pub times_are : new.times ≡ then_told old.times (time_in input)
  pub took_is : new.took ≡ then_in old.took input
  pub failed_is : new.failed ≡ old.failed
  pub wrote_is : new.wrote ≡ old.wrote

-- memory ran out in a turn
pub record Cuts (s : ServeState) (g : Gathered) (old new : Tells) : Type 0 where
  pub known : TurnKnowledge
  pub is_known : IsTurnKnowledge known s.state
  pub cut : CutIn (known_events known s.rows) (nothing_pending s.state) g
  pub came_is : new.came ≡ then_told old.came (known_came known)
  pub times_are : new.times ≡ then_told old.times (known_times known)
  pub took_is : new.took ≡ then_known old.took known
  pub failed_is : new.failed ≡ old.failed
  pub wrote_is : new.wrote ≡ old.wrote

-- an accept failed
pub record AcceptFails (s : ServeState) (g : Gathered) (old new : Tells) : Type 0 where
  pub state_is : g.state ≡ s.state
  pub came_is : new.came ≡ then_told old.came (accept_came accepted.Fault ∷ [])
  pub times_are : new.times ≡ old.times
  pub took_is : new.took ≡ old.took
  pub failed_is : new.failed ≡ old.failed
  pub wrote_is : new.wrote ≡ old.wrote

abbrev pub Inputs : Result (Unit {0}) Halt → ServeState → Gathered → List Event → Tells → Tells → Type 0
Inputs (Ok u) s g rest old new = Learns s g rest old new
Inputs (Err (Bad n)) s g rest old new = ⊥
Inputs (Err Memory) s g rest old new = Cuts s g old new
Inputs (Err ReadHalt) s g rest old new = AcceptFails s g old new
Inputs (Err Write) s g rest old new = ⊥

-- how many accepts and reads there were
abbrev pub Counts : Result (Unit {0}) Halt → (old new : ℕ) → Type 0
Counts (Ok u) old new = new ≡ old + 1
Counts (Err (Bad n)) old new = ⊥
Counts (Err Memory) old new = (old ≤ new) × (new ≤ old + 1)
Counts (Err ReadHalt) old new = new ≡ old + 1
Counts (Err Write) old new = (old ≤ new) × (new ≤ old + 1)

-- an accept failed exactly where serving halts for it
abbrev pub CountsAcceptFailure : Result (Unit {0}) Halt → (old new : ℕ) → Type 0
CountsAcceptFailure (Ok u) old new = new ≡ old
CountsAcceptFailure (Err (Bad n)) old new = ⊥
CountsAcceptFailure (Err Memory) old new = new ≡ old
CountsAcceptFailure (Err ReadHalt) old new = new ≡ old + 1
CountsAcceptFailure (Err Write) old new = new ≡ old

-- a write to the output failed exactly where it halts for that
abbrev pub WriteFails : Result (Unit {0}) Halt → ℕ → Type 0
WriteFails (Ok u) failures = failures ≡ 0
WriteFails (Err (Bad n)) failures = ⊥
WriteFails (Err Memory) failures = failures ≡ 0
WriteFails (Err ReadHalt) failures = failures ≡ 0
WriteFails (Err Write) failures = 0 < failures

-- the answers were written, all of them or a prefix; where a write failed, the connection is lost
pub record IsAnswered (g g' : Gathered) (took took' : Option (List (List ℕ))) (failed failed' : ℕ) : Type 0 where
  pub taken : List ℕ
  pub broke : Bool
  pub is_taken : IsTaken broke taken g.answers
  pub lost_is : g' ≡ gathered (broken broke) g
  pub took_is : took' ≡ then_onto took taken
  pub failed_is : failed' ≡ failed + failures broke

-- a turn, of which all was written
pub record ServeGoesOn (s : ServeState) (g : Gathered) (rest : List Event) (old new : Tells) : Type 0 where
  pub turn : ServeTurn
  pub is_turn : IsServeTurn turn s
  pub handed : g ≡ nothing_pending (after_serve_turn turn s).state
  pub rest_is : rest ≡ rows_after_input turn.input s.rows
  pub came_is : new.came ≡ then_told old.came (came_in turn.input)
  pub times_are : new.times ≡ then_told old.times (time_in turn.input)
  pub took_is : new.took ≡ then_onto (then_in old.took turn.input) turn.taken
  pub failed_is : new.failed ≡ old.failed + failures turn.broke
  pub wrote_is : Appends old.wrote new.wrote (given_by_input turn.input s).lines

-- a turn, of whose lines a write failed
pub record TurnStops (s : ServeState) (state : State) (old new : Tells) : Type 0 where
  pub turn : ServeTurn
  pub is_turn : IsServeTurn turn s
  pub state_is : state ≡ (after_serve_turn turn s).state
  pub came_is : new.came ≡ then_told old.came (came_in turn.input)
  pub times_are : new.times ≡ then_told old.times (time_in turn.input)
  pub took_is : new.took ≡ then_onto (then_in old.took turn.input) turn.taken
  pub failed_is : new.failed ≡ old.failed + failures turn.broke
  pub wrote_is : WrotePrefix old.wrote (given_by_input turn.input s).lines new.wrote

-- a turn that memory cut short, all of whose lines were written
abbrev pub StopsShort : ServeState → State → Tells → Tells → Type 0
StopsShort s state old new = (t : CutTurn) × CutShort t s None state old new × Appends old.wrote new.wrote (cut_given t.cut s).lines

-- or of whose lines a write failed
abbrev pub StopsShorter : ServeState → State → Tells → Tells → Type 0
StopsShorter s state old new = (t : CutTurn) × CutShort t s None state old new × WrotePrefix old.wrote (cut_given t.cut s).lines new.wrote

-- A TURN: all is written, or serving halts
abbrev pub ServeGoes : Result (Unit {0}) Halt → ServeState → Gathered → List Event → Tells → Tells → Type 0
ServeGoes (Ok u) s g rest old new = ServeGoesOn s g rest old new
ServeGoes (Err (Bad n)) s g rest old new = ⊥
ServeGoes (Err Memory) s g rest old new = StopsShort s g.state old new
ServeGoes (Err ReadHalt) s g rest old new = AcceptFails s g old new
ServeGoes (Err Write) s g rest old new = TurnStops s g.state old new ⊎ StopsShorter s g.state old new

-- this many turns passed
pub record SoFar (n : ℕ) (s : ServeState) (g : Gathered) (rest : List Event) (old new : Tells) : Type 0 where
  pub ts : ServeTurns
  pub are : AreServeTurns s ts
  pub count_is : serve_turn_count ts ≡ n
  pub handed : g ≡ nothing_pending (after_serve_turns s ts).state
  pub rest_is : rest ≡ (after_serve_turns s ts).rows
  pub came_is : new.came ≡ then_told old.came (turns_came ts)
  pub times_are : new.times ≡ then_told old.times (times ts)
  pub took_is : new.took ≡ took old.took ts
  pub failed_is : new.failed ≡ old.failed + breaks ts
  pub wrote_is : Appends old.wrote new.wrote (sent_lines s ts)
