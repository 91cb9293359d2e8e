-- How serving ends, and what was written then.
use Rattle.std.specs.Prelude.{◌≡◌, ◌⊎◌, ◌<◌, ◌≤◌, ◌+◌, ℕ, List, [], ◌∷◌, ◌++◌, Option}
use Rattle.std.specs.Io.KnownBytes.{Appends, append_known}
use Rattle.of_replay.specs.declared.event_file.Ended.TheVariants.{Done, BadRow, Text, ReadFault, WriteFault, NoMemory}
use Rattle.of_replay.specs.{declared.event_file.Ended.Ended, Transfer.WrotePrefix}
use Rattle.of_serve.specs.declared.peers.Accepted.TheVariants as accepted
use Rattle.of_serve.specs.Turns.{ServeState, ServeTurn, failures, given_by_input, CutTurn, IsCutTurn, cut_given, cut_after, known_came, known_times, then_known, ServeTurns, None, Then, AreServeTurns, serve_turn_count, after_serve_turns, turns_came, times, took, breaks, sent_lines}
use Rattle.of_serve.specs.Told.{PeerCame, accept_came, then_told, then_onto}
use Rattle.of_switch.specs.State.{State}

-- what peers, clock and output recorded at one time
pub record Tells : Type 0 where
  pub came : Option (List PeerCame)
  pub times : Option (List ℕ)
  pub took : Option (List (List ℕ))
  -- how many writes to connections failed
  pub failed : ℕ
  pub wrote : Option (List ℕ)

abbrev pub tells : Option (List PeerCame) → Option (List ℕ) → Option (List (List ℕ)) → ℕ → Option (List ℕ) → Tells
tells came times took failed wrote = record { came = came; times = times; took = took; failed = failed; wrote = wrote }

-- all of these turns passed, and this is the switch after them
pub record Passed (s : ServeState) (ts : ServeTurns) (state : State) (old new : Tells) : Type 0 where
  pub times_are : new.times ≡ then_told old.times (times ts)
  pub took_is : new.took ≡ took old.took ts
  pub failed_is : new.failed ≡ old.failed + breaks ts
  pub state_is : state ≡ (after_serve_turns s ts).state

-- after these turns came one that running out of memory cut short
pub record CutShort (t : CutTurn) (s : ServeState) (ts : ServeTurns) (state : State) (old new : Tells) : Type 0 where
  pub is : IsCutTurn t (after_serve_turns s ts)
  pub came_is : new.came ≡ then_told old.came (turns_came ts ++ known_came t.known)
  pub times_are : new.times ≡ then_told old.times (times ts ++ known_times t.known)
  pub took_is : new.took ≡ then_onto (then_known (took old.took ts) t.known) t.taken
  pub failed_is : new.failed ≡ old.failed + (breaks ts + failures t.broke)
  pub state_is : state ≡ cut_after t (after_serve_turns s ts)

-- the lines of the frames that were sent in all of them
abbrev pub cut_sent : CutTurn → ServeState → ServeTurns → List ℕ
cut_sent t s ts = sent_lines s ts ++ (cut_given t.cut (after_serve_turns s ts)).lines

-- A write to the output failed among the lines of the last turn, after all lines of those before it; the answers of that
-- turn were written first.
pub record FailsIn (s : ServeState) (ts : ServeTurns) (old new : Option (List ℕ)) : Type 0 where
  pub before : ServeTurns
  pub last : ServeTurn
  pub turns_are : ts ≡ Then before last
  pub wrote_is : WrotePrefix (append_known old (sent_lines s before)) (given_by_input last.input (after_serve_turns s before)).lines new

-- HOW SERVING ENDS after these turns, and the switch then. A write to the output may fail in a whole turn, or in one that
-- memory cut short; memory may also run out before the first turn.
abbrev pub EndsSo : Ended → ℕ → ServeState → ServeTurns → State → Tells → Tells → Type 0
EndsSo Done turns s ts state old new =
    (serve_turn_count ts ≡ turns) × (new.came ≡ then_told old.came (turns_came ts)) × Passed s ts state old new × Appends old.wrote new.wrote (sent_lines s ts)
EndsSo (BadRow n) turns s ts state old new = ⊥
EndsSo (Text fault) turns s ts state old new = ⊥
EndsSo ReadFault turns s ts state old new =
    (serve_turn_count ts < turns) × (new.came ≡ then_told old.came (turns_came ts ++ accept_came accepted.Fault ∷ [])) × Passed s ts state old new
    × Appends old.wrote new.wrote (sent_lines s ts)
EndsSo WriteFault turns s ts state old new =
    ((serve_turn_count ts ≤ turns) × (new.came ≡ then_told old.came (turns_came ts)) × Passed s ts state old new × FailsIn s ts old.wrote new.wrote)
    ⊎ ((t : CutTurn) × (serve_turn_count ts < turns) × CutShort t s ts state old new
    × WrotePrefix (append_known old.wrote (sent_lines s ts)) (cut_given t.cut (after_serve_turns s ts)).lines new.wrote)
EndsSo NoMemory turns s ts state old new =
    ((t : CutTurn) × (serve_turn_count ts < turns) × CutShort t s ts state old new × Appends old.wrote new.wrote (cut_sent t s ts))
    ⊎ ((ts ≡ None) × (state ≡ s.state) × (new ≡ old))

pub record Serves (ended : Ended) (turns : ℕ) (s : ServeState) (state : State) (old new : Tells) : Type 0 where
  pub ts : ServeTurns
  pub are : AreServeTurns s ts
  pub ends : EndsSo ended turns s ts state old new
