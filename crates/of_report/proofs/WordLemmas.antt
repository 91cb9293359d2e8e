-- Words after words.
use Rattle.std.proofs.Common.{◌≡◌, ℕ, List, [], ◌∷◌, ◌++◌, Result, Ok, Err, ap, ◌∙◌, append_assoc}
use Rattle.std.specs.Prelude.{OnOk}

pub ended : {A E : Type 0} (r : Result A E) (out words tail mid new : List ℕ) → mid ≡ out ++ words → OnOk r (new ≡ mid ++ tail) → OnOk r (new ≡ out ++ (words ++ tail))
ended (Ok x) out words tail mid new m n = n ∙ (ap (λ (xs : List ℕ). xs ++ tail) m ∙ append_assoc out words tail)
ended (Err e) out words tail mid new m n = tt

-- words behind a byte
pub led : (out mid new words : List ℕ) (b : ℕ) → mid ≡ out ++ b ∷ [] → new ≡ mid ++ words → new ≡ out ++ (b ∷ words)
led out mid new words b m n = n ∙ (ap (λ (xs : List ℕ). xs ++ words) m ∙ append_assoc out (b ∷ []) words)

-- four pieces, one after the other
pub four : (out a b c d one two three new : List ℕ) → one ≡ out ++ a → two ≡ one ++ b → three ≡ two ++ c → new ≡ three ++ d → new ≡ out ++ (a ++ (b ++ (c ++ d)))
four out a b c d one two three new e f g h =
    h ∙ (ap (λ (xs : List ℕ). xs ++ d) g
    ∙ (append_assoc two c d ∙ (ap (λ (xs : List ℕ). xs ++ (c ++ d)) f ∙ (append_assoc one b (c ++ d) ∙ (ap (λ (xs : List ℕ). xs ++ (b ++ (c ++ d))) e ∙ append_assoc out a (b ++ (c ++ d)))))))

pub four_joined : (out a b c d one two three new : List ℕ) → one ≡ out ++ a → two ≡ one ++ b → three ≡ two ++ c → new ≡ three ++ d → new ≡ out ++ (((a ++ b) ++ c) ++ d)
four_joined out a b c d one two three new e f g h =
    let second : two ≡ out ++ (a ++ b) = f ∙ (ap (λ (xs : List ℕ). xs ++ b) e ∙ append_assoc out a b) in
    let third : three ≡ out ++ ((a ++ b) ++ c) = g ∙ (ap (λ (xs : List ℕ). xs ++ c) second ∙ append_assoc out (a ++ b) c) in
    h ∙ (ap (λ (xs : List ℕ). xs ++ d) third ∙ append_assoc out ((a ++ b) ++ c) d)
