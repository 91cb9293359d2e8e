-- WHAT EACH CONNECTION WAS ANSWERED, AND WHAT IT TOOK OF THAT (OpenFlow 1.3.5, 6.3).
use Rattle.std.specs.Prelude.{ℕ, ◌+◌, Bool, false, ◌||◌, List, [], ◌∷◌, ◌++◌}
use Rattle.std.specs.List.{AllByRecursion}
use Rattle.of_serve.specs.declared.peers.Accepted.TheVariants as accepted
use Rattle.of_serve.specs.Turns.{Input, Accepts, Reads, ServeState, IsTaken, failures, given_by_input, TurnKnowledge, Time, All, CutTurn, cut_given, ServeTurns, None, Then, after_serve_turns}

pub record ServedConnection : Type 0 where
  -- the bytes of all messages that the switch gave it, in order
  pub answered : List ℕ
  -- those that its writes took
  pub taken : List ℕ
  -- whether a write to it failed
  pub broke : Bool

-- an accept that answered Open begins one
abbrev pub connections_begun : Input → List ServedConnection → List ServedConnection
connections_begun (Accepts accepted.Open) cs = record { answered = []; taken = []; broke = false } ∷ cs
connections_begun (Accepts accepted.Nothing) cs = cs
connections_begun (Accepts accepted.Fault) cs = cs
connections_begun (Reads now answer) cs = cs

-- the newest one gets the answers of a turn, and takes of them
abbrev pub answered : (answers taken : List ℕ) (broke : Bool) → List ServedConnection → List ServedConnection
answered answers taken broke [] = []
answered answers taken broke (c ∷ cs) = record { answered = c.answered ++ answers; taken = c.taken ++ taken; broke = c.broke || broke } ∷ cs

-- the connections of turns, the newest first
abbrev pub connections : ServeState → ServeTurns → List ServedConnection
connections s None = []
connections s (Then ts t) = answered (given_by_input t.input (after_serve_turns s ts)).answers t.taken t.broke (connections_begun t.input (connections s ts))

-- and of turns after which came one that running out of memory cut short
abbrev pub begun_known : TurnKnowledge → List ServedConnection → List ServedConnection
begun_known (Time now) cs = cs
begun_known (All input) cs = connections_begun input cs

abbrev pub cut_connections : ServeState → ServeTurns → CutTurn → List ServedConnection
cut_connections s ts t = answered (cut_given t.cut (after_serve_turns s ts)).answers t.taken t.broke (begun_known t.known (connections s ts))

-- to how many of them a write failed
abbrev pub broken_among : List ServedConnection → ℕ
broken_among [] = 0
broken_among (c ∷ cs) = broken_among cs + failures c.broke

-- all answers were taken; or a write failed, and a byte or more at the end was not
abbrev pub TookPrefix : ServedConnection → Type 0
TookPrefix c = IsTaken c.broke c.taken c.answered

abbrev pub AllTookPrefixes : List ServedConnection → Type 0
AllTookPrefixes cs = AllByRecursion TookPrefix cs
