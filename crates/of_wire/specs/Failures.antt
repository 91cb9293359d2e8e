-- What an error of a reader says.
use Rattle.std.specs.Prelude.{◌≡◌, Result, Ok, Err}
use Rattle.of_wire.specs.{declared.code.Code.Code, declared.code.ReadError.ReadError}
use Rattle.of_wire.specs.declared.code.ReadError.TheVariants as errors

-- an error is that memory ran out, or a refusal for which this holds
abbrev pub Fails : (Code → Type 0) → ReadError → Type 0
Fails is_refused errors.Memory = Unit {0}
Fails is_refused (errors.Refused code) = is_refused code

-- what a reader returned is what its bytes say, unless memory ran out
abbrev pub Reads : {V : Type 0} → Result V ReadError → Result V Code → Type 0
Reads (Ok value) said = said ≡ Ok value
Reads (Err e) said = Fails (λ code. said ≡ Err code) e
