-- Pauses, one after the other.
use Rattle.std.proofs.Common.{◌≡◌, ◌≤◌, ◌<◌, ℕ, ◌+◌, ◌*◌, Bool, true, false, arith, refl, ◌∙◌, ap, add-one}
use Rattle.std.{specs.Prelude.◌^◌, specs.Prelude.min, specs.Prelude.nat_le, proofs.Math.Nat.pow-suc, proofs.Math.Nat.le-mul_of_pos_right, proofs.Math.Nat.mul-le-mul_right, proofs.lemmas.Nat.pow_pos}
use Rattle.std.proofs.lemmas.Bool.Decides.{nat_tests}

turned : (p q : ℕ) → p * 2 * q ≡ p * (q * 2)
turned p q = grind arith

doubled_by : (b : Bool) (p q : ℕ) → nat_le (p * 2) 5000 ≡ b → 0 < q → min 5000 (min (p * 2) 5000 * q) ≡ min 5000 (p * (q * 2))
doubled_by true p q t h =
    let short : min (p * 2) 5000 ≡ p * 2 = grind (arith, nat_tests, t) in
    ap (λ (x : ℕ). min 5000 (x * q)) short ∙ ap (min 5000) (turned p q)
doubled_by false p q t h =
    let long : 5000 ≤ p * 2 = grind (arith, nat_tests, t) in
    let cut : min (p * 2) 5000 ≡ 5000 = omega (arith, long) in
    let more : 5000 * q ≤ p * 2 * q = mul-le-mul_right q long in
    let some : 5000 ≤ 5000 * q = le-mul_of_pos_right 5000 h in
    ap (λ (x : ℕ). min 5000 (x * q)) cut ∙ omega (arith, some, more, turned p q)

pub doubled : (p n : ℕ) → min 5000 (min (p * 2) 5000 * 2 ^ n) ≡ min 5000 (p * 2 ^ (n + 1))
doubled p n =
    let more : 2 ^ (n + 1) ≡ 2 ^ n * 2 = ap (λ (k : ℕ). 2 ^ k) (add-one n) ∙ pow-suc 2 n in
    rw more (doubled_by (nat_le (p * 2) 5000) p (2 ^ n) refl (pow_pos n))
