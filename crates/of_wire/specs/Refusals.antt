-- A written order of refusals: each with the test that it applies. The first that applies is answered (OpenFlow 1.3.5, 7.4.4).
use Rattle.std.specs.Prelude.{ℕ, Bool, List, [], ◌∷◌, Option, Some, None, if◌then◌else◌}
use Rattle.of_wire.specs.declared.code.Code.{Code}

-- an error type and its code
abbrev pub refusal : ℕ → ℕ → Code
refusal kind code = record { kind = kind; code = code }

abbrev pub first_of : List (Bool × Code) → Option Code
first_of [] = None
first_of (r ∷ rs) = if r.0 then Some r.1 else first_of rs
