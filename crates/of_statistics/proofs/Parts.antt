-- Bytes that are written one part after the other, the last of which may fail.
use Rattle.std.proofs.Common.{◌≡◌, ℕ, List, ◌++◌, ap, ◌∙◌, append_assoc}
use Rattle.std.specs.Prelude.{Result, Ok, Err, OnOk, is_ok, if◌then◌else◌}

-- what `extend_from_slice` says of a part that is put last
pub put_last : {A E : Type 0} (r : Result A E) (old new part same : List ℕ) → new ≡ (if is_ok r then old ++ part else old) → part ≡ same → OnOk r (new ≡ old ++ same)
put_last (Err x) old new part same is e = tt
put_last (Ok x) old new part same is e = is ∙ ap (λ (t : List ℕ). old ++ t) e

pub two_parts : {A E : Type 0} {s1 : List ℕ} (r : Result A E) (s0 s2 a b : List ℕ) → s1 ≡ s0 ++ a → OnOk r (s2 ≡ s1 ++ b) → OnOk r (s2 ≡ s0 ++ (a ++ b))
two_parts (Err x) s0 s2 a b e1 last = last
two_parts (Ok x) s0 s2 a b e1 last = let whole : s2 ≡ (s0 ++ a) ++ b = cc in whole ∙ append_assoc s0 a b

pub seven_parts : {A E : Type 0} {s1 s2 s3 s4 s5 s6 : List ℕ} (r : Result A E) (s0 s7 a b c d e f g : List ℕ)
    → s1 ≡ s0 ++ a → s2 ≡ s1 ++ b → s3 ≡ s2 ++ c → s4 ≡ s3 ++ d → s5 ≡ s4 ++ e → s6 ≡ s5 ++ f → OnOk r (s7 ≡ s6 ++ g) → OnOk r (s7 ≡ s0 ++ (a ++ (b ++ (c ++ (d ++ (e ++ (f ++ g)))))))
seven_parts (Err x) s0 s7 a b c d e f g e1 e2 e3 e4 e5 e6 last = last
seven_parts (Ok x) s0 s7 a b c d e f g e1 e2 e3 e4 e5 e6 last = let whole : s7 ≡ ((((((s0 ++ a) ++ b) ++ c) ++ d) ++ e) ++ f) ++ g = cc in whole ∙ simp append_assoc
