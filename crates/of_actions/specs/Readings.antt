-- What a reader returns where the bytes are known to encode a value, or to have a code.
use Rattle.std.specs.Prelude.{◌≡◌, Result, Ok, Err}
use Rattle.of_wire.specs.{declared.code.Code.Code, declared.code.ReadError.ReadError, Failures.Fails}
use Rattle.of_wire.specs.declared.code.ReadError.TheVariants as errors

-- this value was read, unless memory ran out
abbrev pub ReadsValue : {V : Type 0} → Result V ReadError → V → Type 0
ReadsValue (Ok read) v = read ≡ v
ReadsValue (Err e) v = e ≡ errors.Memory

-- the bytes were refused with this code, unless memory ran out
abbrev pub Refuses : {V : Type 0} → Result V ReadError → Code → Type 0
Refuses (Ok read) code = ⊥
Refuses (Err e) code = Fails (λ c. c ≡ code) e
