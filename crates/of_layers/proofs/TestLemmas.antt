-- Tests joined by and, or, and other small steps.
use Rattle.std.proofs.Common.{◌≡◌, ℕ, min, Bool, true, false, cond, refl}
use Rattle.std.specs.Prelude.{◌&&◌, ◌||◌}

pub and_true : (a b : Bool) → (a && b) ≡ true → (a ≡ true) × (b ≡ true)
and_true true b e = (refl, e)
and_true false b e = absurd cc

pub or_then : {P : Type 0} (a b : Bool) → (a || b) ≡ true → (a ≡ true → P) → (b ≡ true → P) → P
or_then true b e f g = f refl
or_then false b e f g = g e

pub all_true : {a b c d e : Bool} → a ≡ true → b ≡ true → c ≡ true → d ≡ true → e ≡ true → (a && b && c && d && e) ≡ true
all_true p q r s t = λ j. p j && q j && r j && s j && t j

pub same_either : {A : Type 0} (b : Bool) (x : A) → cond b x x ≡ x
same_either true x = refl
same_either false x = refl

pub min_of : (a b c d : ℕ) → a ≡ b → c ≡ d → min a c ≡ min b d
min_of a b c d p q = λ j. min (p j) (q j)
