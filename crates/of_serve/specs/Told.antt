-- What peers and a clock answered, where they record it.
use Rattle.std.specs.Prelude.{ℕ, List, [], ◌∷◌, ◌++◌, Option}
use Rattle.std.specs.Option.{option_map}
use Rattle.of_replay.specs.Told.{Answer, Idle, Failed}
use Rattle.of_serve.specs.declared.peers.Accepted.{Accepted}
use Rattle.of_serve.specs.declared.peers.Accepted.TheVariants as accepted

-- what an accept answered, or a read of the open connection: a connection is opened, or the answer of a read, or
-- of an accept that found nobody or failed
pub data PeerCame : Type 0 where
  Opened : PeerCame
  Answered : (answer : Answer) → PeerCame

abbrev pub accept_came : Accepted → PeerCame
accept_came accepted.Open = Opened
accept_came accepted.Nothing = Answered Idle
accept_came accepted.Fault = Answered Failed

-- what was recorded, and then this
abbrev pub then_told : {A : Type 0} → Option (List A) → List A → Option (List A)
then_told known more = option_map (λ told. told ++ more) known

abbrev pub accept_faults : Accepted → ℕ
accept_faults accepted.Open = 0
accept_faults accepted.Nothing = 0
accept_faults accepted.Fault = 1

-- WHAT CONNECTIONS TOOK: a list of bytes a connection, the newest first

-- an accept that answered Open begins a connection
abbrev pub begun_by_accept : Accepted → List (List ℕ) → List (List ℕ)
begun_by_accept accepted.Open connections = [] ∷ connections
begun_by_accept accepted.Nothing connections = connections
begun_by_accept accepted.Fault connections = connections

-- the newest takes bytes
abbrev pub onto : List ℕ → List (List ℕ) → List (List ℕ)
onto bytes [] = []
onto bytes (taken ∷ others) = (taken ++ bytes) ∷ others

abbrev pub then_begun : Option (List (List ℕ)) → Accepted → Option (List (List ℕ))
then_begun known accepted = option_map (begun_by_accept accepted) known

abbrev pub then_onto : Option (List (List ℕ)) → List ℕ → Option (List (List ℕ))
then_onto known bytes = option_map (onto bytes) known
