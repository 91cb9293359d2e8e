-- Refusals of which none applies.
use Rattle.std.proofs.Common.{◌≡◌, Bool, true, false, cond, List, [], ◌∷◌, Option, Some, None, refl}
use Rattle.std.specs.Prelude.{◌||◌}
use Rattle.of_wire.specs.{declared.code.Code.Code, Refusals.first_of}

abbrev pub NoneApplies : List (Bool × Code) → Type 0
NoneApplies [] = Unit {0}
NoneApplies (r ∷ rs) = (r.0 ≡ false) × NoneApplies rs

none_by : (test : Bool) (code : Code) (rest : Option Code) → cond test (Some code) rest ≡ None → (test ≡ false) × (rest ≡ None)
none_by true code rest h = absurd cc
none_by false code rest h = (refl, h)

pub none_applies : (rs : List (Bool × Code)) → first_of rs ≡ None → NoneApplies rs
none_applies [] h = tt
none_applies (r ∷ rs) h = let both = none_by r.0 r.1 (first_of rs) h in (both.0, none_applies rs both.1)

-- the first of several tests does not hold
pub first_false : (a b : Bool) → (a || b) ≡ false → a ≡ false
first_false true b h = h
first_false false b h = refl
