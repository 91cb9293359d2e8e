-- Why reading stops: memory ran out, or this is refused.
use Rattle.std.specs.Prelude.{◌≡◌, Result, Err}
use Rattle.of_ovs_words.specs.{declared.why.Why.Why, declared.stop.Stop.Stop, declared.stop.Stop.TheVariants.NoMemory, declared.stop.Stop.TheVariants.Refused}

abbrev pub Stops : {A : Type 0} → Result A Why → Stop → Type 0
Stops outcome NoMemory = Unit {0}
Stops outcome (Refused why) = outcome ≡ Err why

-- if it is refused, and memory did not run out
abbrev pub IfRefused : Type 0 → Stop → Type 0
IfRefused fact NoMemory = Unit {0}
IfRefused fact (Refused why) = fact
