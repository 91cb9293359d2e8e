-- How the sending of messages ends, in words: all are taken by the switch, or those before the first that is not.
use Rattle.std.specs.Prelude.{◌≡◌, ℕ, true, List, [], ◌∷◌, ◌++◌, length, None}
use Rattle.of_switch.specs.{State.State, Runs.chunk_in}
use Rattle.of_laws.specs.Sending.{error_in, greeted, is_command}

-- THE SWITCH TAKES THE MESSAGES, one by one, and is then this one: each is a command, and none is answered by an ERROR
abbrev pub TakesMessages : List (List ℕ) → State → State → Type 0
TakesMessages [] s t = t ≡ s
TakesMessages (m ∷ ms) s t = (is_command m ≡ true) × (error_in (chunk_in m s).effects ≡ None) × TakesMessages ms (chunk_in m s).state t

-- THE MESSAGE AT A PLACE comes to a switch that has taken those before it
pub record ComesTo (messages : List (List ℕ)) (place : ℕ) (m : List ℕ) (s : State) : Type 0 where
  pub before : List (List ℕ)
  pub later : List (List ℕ)
  pub parted : messages ≡ before ++ m ∷ later
  pub place_is : length before ≡ place
  pub taken : TakesMessages before greeted s
