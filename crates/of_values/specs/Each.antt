-- FUNCTIONS THAT APPEND something to a list for each item of another one.
use Rattle.std.specs.Prelude.{◌≡◌, List, ◌++◌, Result, OnOk}
use Rattle.std.specs.{Borrow.Bor, Borrow.MutBor, Global.Vec}

-- A call that succeeds leaves what there was, and behind it what `text` says of the item. `gives out item r left`: a call with `out` and the item may give r and leave `left`
abbrev pub AppendsEach : {A B E : Type 0} → (MutBor (Vec B) → Bor A → Result Unit E → MutBor (Vec B) → Type 0) → (A → List B) → Type 0
AppendsEach {A} {B} {E} gives text =
    (out : MutBor (Vec B)) (item : Bor A) (r : Result Unit E) (left : MutBor (Vec B)) → gives out item r left → OnOk r (left.now.items ≡ out.now.items ++ text item.now)
