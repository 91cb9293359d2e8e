-- A reading that gives a value: each of its steps gave one, and none was refused.
use Rattle.std.proofs.Common.{◌≡◌, Bool, List, Option, Some, None, Result, Ok, Err, refl}
use Rattle.of_wire.{specs.declared.code.Code.Code, specs.Refusals.first_of, proofs.FirstLemmas.NoneApplies, proofs.FirstLemmas.none_applies}
use Rattle.of_formats.specs.Reading.{◌>>=◌, or_refused, unless, known}

pub bound : {A B : Type 0} (r : Result A Code) (k : A → Result B Code) (b : B) → (r >>= k) ≡ Ok b → (a : A) × (r ≡ Ok a) × (k a ≡ Ok b)
bound (Ok a) k b h = (a, refl, h)
bound (Err code) k b h = absurd cc

-- the tests are written out: antt does not find them
pub passed : {B : Type 0} (rs : List (Bool × Code)) (next : Result B Code) (b : B) → (unless rs >>= λ fine. next) ≡ Ok b → NoneApplies rs × (next ≡ Ok b)
passed {B} rs next b h = by_first (first_of rs) refl h
  where
    by_first : (o : Option Code) → first_of rs ≡ o → (or_refused o >>= λ fine. next) ≡ Ok b → NoneApplies rs × (next ≡ Ok b)
    by_first None none e = (none_applies rs none, e)
    by_first (Some code) none e = absurd cc

pub is_known : {A : Type 0} (o : Option A) (code : Code) (a : A) → known o code ≡ Ok a → o ≡ Some a
is_known (Some b) code a h = cc
is_known None code a h = absurd cc

pub same_ok : {A : Type 0} {a b : A} → ◌≡◌ {A = Result A Code} (Ok a) (Ok b) → a ≡ b
same_ok h = cc
