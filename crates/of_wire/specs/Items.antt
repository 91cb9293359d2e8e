-- Items one after the other, each judged by those before it, until the bytes end or an item is refused.
use Rattle.std.specs.Prelude.{◌≡◌, ◌<◌, ℕ, zero, suc, Bool, List, [], ◌∷◌, ◌++◌, length, drop, Option, Some, None, IsSome, Result, Ok, Err}
use Rattle.of_wire.specs.{declared.code.Code.Code, Refusals.first_of}

-- A kind of items: the refusals of the item that bytes begin with, after given values; the value of an item that is not refused; and its size.
pub record Items (V : Type 0) : Type 0 where
  pub refusals : List V → List ℕ → List (Bool × Code)
  pub value_at : List ℕ → Option V
  pub size_at : List ℕ → ℕ

-- after the values `seen`, bytes end, or go on with a fault
abbrev pub IsItemsEnd : {V : Type 0} → Items V → List V → List ℕ → Option Code → Type 0
IsItemsEnd kind seen [] fault = fault ≡ None
IsItemsEnd kind seen (b ∷ bs) fault = (first_of (kind.refusals seen (b ∷ bs)) ≡ fault) × IsSome fault

-- after the values `seen`, bytes are these values, and then they end or have a fault: bytes begin with the first, which is not refused, and what follows it is the others
abbrev pub AreItems : {V : Type 0} → Items V → List V → List ℕ → List V → Option Code → Type 0
AreItems kind seen bytes [] fault = IsItemsEnd kind seen bytes fault
AreItems kind seen bytes (v ∷ vs) fault =
    (0 < length bytes) × (first_of (kind.refusals seen bytes) ≡ None) × (kind.value_at bytes ≡ Some v) × AreItems kind (seen ++ v ∷ []) (drop (kind.size_at bytes) bytes) vs fault

-- The same as a function, at most n items: the values, or the code of the first item that is refused.
abbrev pub item_then : {V : Type 0} → Items V → (List V → List ℕ → Result (List V) Code) → List V → List ℕ → Option Code → Option V → Result (List V) Code
item_then kind others seen bytes (Some code) value = Err code
item_then kind others seen bytes None (Some v) = others (seen ++ v ∷ []) (drop (kind.size_at bytes) bytes)
item_then kind others seen bytes None None = Ok seen

unfoldable pub items_from : {V : Type 0} → Items V → ℕ → List V → List ℕ → Result (List V) Code
items_from kind zero seen bytes = Ok seen
items_from kind (suc n) seen [] = Ok seen
items_from kind (suc n) seen (b ∷ bs) = item_then kind (items_from kind n) seen (b ∷ bs) (first_of (kind.refusals seen (b ∷ bs))) (kind.value_at (b ∷ bs))

-- the values, or the code of the first refusal
abbrev pub outcome : {V : Type 0} → List V → Option Code → Result (List V) Code
outcome values None = Ok values
outcome values (Some code) = Err code

-- an item that is not refused takes some bytes
abbrev pub TakesBytes : {V : Type 0} → Items V → Type 0
TakesBytes {V} kind = (seen : List V) (bytes : List ℕ) → 0 < length bytes → first_of (kind.refusals seen bytes) ≡ None → 0 < kind.size_at bytes
