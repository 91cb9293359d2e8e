-- Adding the carries keeps a sum, but for multiples of 65535.
use Rattle.std.proofs.Common.{◌≡◌, ℕ, ◌+◌, ◌-◌, ◌/◌, ◌%◌, ◌<◌, ◌≤◌, false, refl, sym, ◌∙◌, arith, inl, inr}
use Rattle.std.{specs.Prelude.◌==◌, proofs.lemmas.Bool.cases_eq, proofs.lemmas.Bool.ne_eqb}
use Rattle.of_rewrite.specs.Checksum.{fold}

-- fold at a number above 0
pub fold_is : (s : ℕ) → 0 < s → fold s ≡ 1 + (s - 1) % 65535
fold_is s h = let ne : (s == 0) ≡ false = ne_eqb s 0 (omega arith) in rw ne refl

pub fold_small : (s : ℕ) → s ≤ 65535 → fold s ≡ s
fold_small s h =
    elim (cases_eq s 0) [
      | inl e ↦ rw e refl
      | inr ne ↦ fold_is s (omega arith) ∙ (let t : 1 + (s - 1) % 65535 ≡ s = omega arith in t)
    ]

pub fold_step : (s : ℕ) → fold (s % 65536 + s / 65536) ≡ fold s
fold_step s =
    elim (cases_eq s 0) [
      | inl e ↦ rw e refl
      | inr ne ↦
          let pos : 0 < s % 65536 + s / 65536 = omega arith in
          let same : 1 + (s % 65536 + s / 65536 - 1) % 65535 ≡ 1 + (s - 1) % 65535 = omega arith in
          fold_is (s % 65536 + s / 65536) pos ∙ same ∙ sym (fold_is s (omega arith))
    ]
