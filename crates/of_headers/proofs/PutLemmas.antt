-- Numbers that are put into a key: one for each field of a layer.
use Rattle.std.proofs.Common.{◌≡◌, ℕ, zero, suc, ◌<◌, cond, List, get_or, Option, Some, None, refl, sym, ap, ◌∙◌, arith}
use Rattle.std.{specs.Prelude.◌==◌, specs.Prelude.bit_or, specs.Int.bit_at, specs.Option.option_or, proofs.lemmas.Nat.Bits.bit_at-lt, proofs.lemmas.Nat.Bits.bit_at_or}
use Rattle.of_layers.specs.{declared.field.Field.Field, Fields.number_of}
use Rattle.of_headers.specs.{declared.key.FieldKey.FieldKey, declared.numbers.Numbers.Numbers, Presence.AbsentAreZero, Numbers.numbers_in, FieldMap.there, FieldMap.value}

bit_more : (p w n : ℕ) → bit_at w n ≡ 1 → bit_at (bit_or p w) n ≡ 1
bit_more p w n h = omega (arith, bit_at_or p w n, bit_at-lt p n)

bit_kept : (p w n : ℕ) → bit_at w n ≡ 0 → bit_at (bit_or p w) n ≡ bit_at p n
bit_kept p w n h = omega (arith, bit_at_or p w n, bit_at-lt p n)

-- no number changes but where the word has its bit
abbrev pub AreKept : ℕ → List ℕ → List ℕ → Type 0
AreKept w xs ys = (f : Field) → get_or ys (number_of f) 0 ≡ cond (bit_at w (number_of f) == 1) (get_or ys (number_of f) 0) (get_or xs (number_of f) 0)

kept_by : (n w x y : ℕ) → bit_at w n ≡ 0 → y ≡ cond (bit_at w n == 1) y x → y ≡ x
kept_by n w x y e k = rw e at k

pub absent_put : (k : FieldKey) (r : Numbers) (w : ℕ) → r.present ≡ bit_or k.numbers.present w → AreKept w (numbers_in k.numbers) (numbers_in r) → AbsentAreZero r.present (numbers_in r)
absent_put k r w p_is h f e =
    let n : ℕ = number_of f in
    let off : bit_at (bit_or k.numbers.present w) n ≡ 0 = ap (λ (p : ℕ). bit_at p n) (sym p_is) ∙ e in
    kept_by n w (get_or (numbers_in k.numbers) n 0) (get_or (numbers_in r) n 0) (omega (arith, off, bit_at_or k.numbers.present w n)) (h f) ∙ k.absent f (omega (arith, off, bit_at_or k.numbers.present w n))

-- a layer has the number where the word has its bit, and no other number changes
pub record IsPut (w : ℕ) (xs ys : List ℕ) (o : Option ℕ) (n : ℕ) : Type 0 where
  pub found : o ≡ cond (bit_at w n == 1) (Some (get_or ys n 0)) None
  pub kept : get_or ys n 0 ≡ cond (bit_at w n == 1) (get_or ys n 0) (get_or xs n 0)

put_by : (p w n : ℕ) (xs ys : List ℕ) (o : Option ℕ) (b : ℕ) → b < 2 → bit_at w n ≡ b → o ≡ cond (b == 1) (Some (get_or ys n 0)) None → get_or ys n 0 ≡ cond (b == 1) (get_or ys n 0) (get_or xs n 0) →
    there (bit_or p w) n (get_or ys n 0) ≡ option_or o (there p n (get_or xs n 0))
put_by p w n xs ys o zero l e f k =
    let bit : bit_at (bit_or p w) n ≡ bit_at p n = bit_kept p w n e in
    rw (f, k, bit) refl
put_by p w n xs ys o (suc zero) l e f k =
    let bit : bit_at (bit_or p w) n ≡ 1 = bit_more p w n e in
    rw (f, bit) refl
put_by p w n xs ys o (suc (suc b)) l e f k = absurd (omega arith)

pub value_put : (k r : FieldKey) (w : ℕ) (layer : Field → Option ℕ) → r.numbers.present ≡ bit_or k.numbers.present w → ((f : Field) → IsPut w (numbers_in k.numbers) (numbers_in r.numbers) (layer f) (number_of f)) → (f : Field) → value r f ≡ option_or (layer f) (value k f)
unfolding value
value_put k r w layer e h f =
    ap (λ (q : ℕ). there q (number_of f) (get_or (numbers_in r.numbers) (number_of f) 0)) e
    ∙ put_by k.numbers.present w (number_of f) (numbers_in k.numbers) (numbers_in r.numbers) (layer f) (bit_at w (number_of f)) (bit_at-lt w (number_of f)) refl (h f).found (h f).kept
