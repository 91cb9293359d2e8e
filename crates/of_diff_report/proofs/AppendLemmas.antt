-- Texts that are appended one after the other.
use Rattle.std.proofs.Common.{◌≡◌, ◌∙◌, ◌++◌, ℕ, List, Result, Ok, Err, ap, append_assoc}
use Rattle.std.specs.Prelude.{OnOk}

pub two_pieces : {Y E : Type 0} (r : Result Y E) (new between out first second : List ℕ) → between ≡ out ++ first → OnOk r (new ≡ between ++ second) → OnOk r (new ≡ out ++ (first ++ second))
two_pieces (Err e) new between out first second b h = tt
two_pieces (Ok y) new between out first second b h = h ∙ (ap (λ (l : List ℕ). l ++ second) b ∙ append_assoc out first second)

pub one_after_other : {Y E : Type 0} (r : Result Y E) (new between out first second : List ℕ) → between ≡ out ++ first → OnOk r (new ≡ between ++ second) → OnOk r (new ≡ (out ++ first) ++ second)
one_after_other (Err e) new between out first second b h = tt
one_after_other (Ok y) new between out first second b h = h ∙ ap (λ (l : List ℕ). l ++ second) b
