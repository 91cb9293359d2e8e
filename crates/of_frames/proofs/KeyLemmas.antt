-- The numbers of a key are the values of its fields, and 0 for those that it lacks.
use Rattle.std.proofs.Common.{◌≡◌, ℕ, zero, suc, ◌<◌, ◌/◌, ◌^◌, cond, Some, None, refl, arith}
use Rattle.std.{specs.Prelude.◌==◌, specs.Prelude.slice_index, specs.Prelude.unwrap_or, specs.Int.bit_at, proofs.Math.Path.fun_ext, proofs.lemmas.Nat.mod_below}
use Rattle.of_layers.specs.{declared.field.Field.Field, Fields.number_of}
use Rattle.of_headers.specs.{declared.key.FieldKey.FieldKey, FieldMap.value, Numbers.numbers_in}
use Rattle.of_frames.specs.Given.{number, or_zero}

-- a number that is 0 unless its bit is set
by_bit : (b x : ℕ) → b < 2 → (b ≡ 0 → x ≡ 0) → x ≡ unwrap_or (cond (b == 1) (Some x) None) 0
by_bit zero x h z = z refl
by_bit (suc zero) x h z = refl
by_bit (suc (suc b)) x h z = absurd (omega arith)

number_is : (k : FieldKey) (f : Field) → number k.numbers f ≡ or_zero (value k) f
unfolding value
number_is k f = by_bit (bit_at k.numbers.present (number_of f)) (slice_index (numbers_in k.numbers) (number_of f)) (mod_below (k.numbers.present / 2 ^ number_of f) 2 (omega arith)) (k.absent f)

pub numbers_are : (k : FieldKey) → number k.numbers ≡ or_zero (value k)
numbers_are k = fun_ext (number_is k)
