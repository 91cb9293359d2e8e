-- Numbers that digits make.
use Rattle.std.proofs.Common.{◌≡◌, ℕ, ◌+◌, ◌-◌, ◌*◌, ◌<◌, ◌≤◌, Bool, true, false, cond, List, [], ◌∷◌, None, refl, arith, drop, get_or, length, add-one, drop-cons}
use Rattle.std.proofs.lemmas.Bool.{le-ltb}
use Rattle.of_replay.specs.Lexing.{is_digit, value_of_decimal, below_limit}

grown_by : (limit v : ℕ) (ds : List ℕ) (d : ℕ) (t : Bool) → below_limit limit (value_of_decimal (10 * v + (d - 48)) ds) ≡ None → below_limit limit (cond t (value_of_decimal (10 * v + (d - 48)) ds) None) ≡ None
grown_by limit v ds d true h = h
grown_by limit v ds d false h = refl

-- a number that is too large stays so
pub grown : (limit v : ℕ) (ds : List ℕ) → limit ≤ v → below_limit limit (value_of_decimal v ds) ≡ None
grown limit v [] h = rw (le-ltb v limit h) refl
grown limit v (d ∷ ds) h = grown_by limit v ds d (is_digit d) (grown limit (10 * v + (d - 48)) ds (omega (arith, h)))

-- one more digit
pub digit_more : (v i : ℕ) (ds : List ℕ) → i < length ds → is_digit (get_or ds i 0) ≡ true → value_of_decimal v (drop i ds) ≡ value_of_decimal (10 * v + (get_or ds i 0 - 48)) (drop (i + 1) ds)
digit_more v i ds h t = rw (add-one, drop-cons ds i 0, t) refl
