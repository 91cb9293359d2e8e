-- READING WITH THE FIRST REFUSAL (OpenFlow 1.3.5, 7.4.4): what is read so far, and then the rest; or the code of the first refusal.
use Rattle.std.specs.Prelude.{Bool, List, Option, Some, None, Result, Ok, Err}
use Rattle.of_wire.specs.{declared.code.Code.Code, Refusals.first_of}

-- what follows comes first, so that it is one match on the result, with no function as its value
abbrev pub and_then : {A B : Type 0} → (A → Result B Code) → Result A Code → Result B Code
and_then next (Ok x) = next x
and_then next (Err code) = Err code

infixl 10 ◌>>=◌
abbrev pub ◌>>=◌ : {A B : Type 0} → Result A Code → (A → Result B Code) → Result B Code
r >>= next = and_then next r

-- nothing, or a refusal
abbrev pub or_refused : Option Code → Result (Unit {0}) Code
or_refused None = Ok tt
or_refused (Some code) = Err code

-- nothing, or the first refusal that applies
abbrev pub unless : List (Bool × Code) → Result (Unit {0}) Code
unless refusals = or_refused (first_of refusals)

-- the value that a number stands for, or this refusal
abbrev pub known : {A : Type 0} → Option A → Code → Result A Code
known None code = Err code
known (Some a) code = Ok a
