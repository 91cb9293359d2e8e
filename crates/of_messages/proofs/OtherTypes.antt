-- A type that the switch reads no message of.
use Rattle.std.proofs.Common.{◌≡◌, ℕ, eqb, false, List, [], ◌∷◌}
use Rattle.std.specs.Prelude.{Err}
use Rattle.of_wire.specs.Refusals.{refusal}
use Rattle.of_messages.specs.{Heads.type_of, Messages.message_body}

abbrev pub IsNone : ℕ → List ℕ → Type 0
IsNone n [] = Unit {0}
IsNone n (k ∷ ks) = (eqb n k ≡ false) × IsNone n ks

abbrev pub types : List ℕ
types = 0 ∷ 1 ∷ 2 ∷ 3 ∷ 5 ∷ 7 ∷ 9 ∷ 13 ∷ 14 ∷ 15 ∷ 16 ∷ 17 ∷ 18 ∷ 20 ∷ 24 ∷ 26 ∷ 28 ∷ []

pub no_body : (m : List ℕ) → IsNone (type_of m) types → message_body m ≡ Err (refusal 1 1)
unfolding message_body
no_body m h =
    let a = h.1.1.1.1.1.1 in
    let b = a.1.1.1.1.1.1 in
    rw (h.0, h.1.0, h.1.1.0, h.1.1.1.0, h.1.1.1.1.0, h.1.1.1.1.1.0, a.0, a.1.0, a.1.1.0, a.1.1.1.0, a.1.1.1.1.0, a.1.1.1.1.1.0, b.0, b.1.0, b.1.1.0, b.1.1.1.0, b.1.1.1.1.0)
