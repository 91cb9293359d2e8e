-- An instruction with actions as it is written, part by part.
use Rattle.std.proofs.Common.{◌≡◌, ℕ, ◌+◌, ◌-◌, List, [], ◌∷◌, ◌++◌, length, take, drop, sym, ap, ◌∙◌, arith}
use Rattle.std.proofs.lemmas.List.{append_assoc, length-append}
use Rattle.byteorder.specs.Endian.{big_bytes}
use Rattle.of_wire.proofs.Replacing.{replaced_behind}

-- the type and six zeros, the actions, and the length in the place of the first two zeros
pub with_actions_is : (out body s1 s2 s3 : List ℕ) (kind at n : ℕ) → s1 ≡ out ++ 0 ∷ kind ∷ 0 ∷ 0 ∷ 0 ∷ 0 ∷ 0 ∷ 0 ∷ [] → s2 ≡ s1 ++ body → n ≡ length s2 - length out → at ≡ length out + 2
    → s3 ≡ take at s2 ++ (big_bytes 2 n ++ drop (at + 2) s2) → s3 ≡ out ++ 0 ∷ kind ∷ (big_bytes 2 (8 + length body) ++ 0 ∷ 0 ∷ 0 ∷ 0 ∷ body)
with_actions_is out body s1 s2 s3 kind at n e1 e2 n_is at_is e3 =
    let head = 0 ∷ kind ∷ [] in
    let text : s2 ≡ (out ++ head) ++ 0 ∷ 0 ∷ 0 ∷ 0 ∷ 0 ∷ 0 ∷ body = e2 ∙ ap (λ (x : List ℕ). x ++ body) e1 ∙ append_assoc out (0 ∷ kind ∷ 0 ∷ 0 ∷ 0 ∷ 0 ∷ 0 ∷ 0 ∷ []) body ∙ sym (append_assoc out head (0 ∷ 0 ∷ 0 ∷ 0 ∷ 0 ∷ 0 ∷ body)) in
    let place : at ≡ length (out ++ head) = omega (arith, at_is, length-append out head) in
    let len : n ≡ 8 + length body = omega (arith, n_is, ap length text, length-append (out ++ head) (0 ∷ 0 ∷ 0 ∷ 0 ∷ 0 ∷ 0 ∷ body), length-append out head) in
    e3 ∙ replaced_behind (out ++ head) (0 ∷ 0 ∷ 0 ∷ 0 ∷ body) (big_bytes 2 n) s2 0 0 at text place
    ∙ append_assoc out head (big_bytes 2 n ++ 0 ∷ 0 ∷ 0 ∷ 0 ∷ body) ∙ ap (λ (x : ℕ). out ++ 0 ∷ kind ∷ (big_bytes 2 x ++ 0 ∷ 0 ∷ 0 ∷ 0 ∷ body)) len
