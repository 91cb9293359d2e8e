-- The word in an array, and the bytes that it begins and ends with.
use Rattle.std.proofs.Common.{◌≡◌, ℕ, ◌<◌, ◌≤◌, eqb, Bool, true, List, Option, Some, None, length, take, map, get_or, refl, sym, ap, ◌∙◌, arith}
use Rattle.std.specs.{Char.to_ascii_lowercase, Str.str_eq_ignore_ascii_case}
use Rattle.std.proofs.{lemmas.List.length-map, lemmas.List.length-take, lemmas.List.get_or-map, lemmas.List.get_or-take, lemmas.Slice.Eq.bytes_eq-Decides, lemmas.Bool.eq-eqb}
use Rattle.of_wire.specs.Parts.{before_place, keyword}

-- the array goes on as far as its word
record IsFront (padded word : List ℕ) : Type 0 where
  long : length word ≤ length padded
  same : (i : ℕ) → i < length word → get_or word i 0 ≡ get_or padded i 0

taken : (padded : List ℕ) (n : ℕ) → IsFront padded (take n padded)
taken padded n = record {
  long = let e = length-take n padded in omega (arith, e);
  same = λ i h. let e = length-take n padded in get_or-take n padded i 0 (omega (arith, e, h));
}

front : (padded : List ℕ) (place : Option ℕ) → IsFront padded (before_place padded place)
front padded None = record { long = omega arith; same = λ i h. refl }
front padded (Some n) = taken padded n

alike_in : (padded word found : List ℕ) → IsFront padded found → map to_ascii_lowercase found ≡ map to_ascii_lowercase word → (i : ℕ) → i < length word → (length word ≤ length padded) × (to_ascii_lowercase (get_or padded i 0) ≡ to_ascii_lowercase (get_or word i 0))
alike_in padded word found f e i h =
    let long : length found ≡ length word = sym (length-map found to_ascii_lowercase) ∙ ap length e ∙ length-map word to_ascii_lowercase in
    let bound = f.long in (
      omega (arith, long, bound),
      ap to_ascii_lowercase (sym (f.same i (omega (arith, long, h))))
          ∙ sym (get_or-map to_ascii_lowercase found i 0 0 (omega (arith, long, h)))
          ∙ ap (λ (bytes : List ℕ). get_or bytes i 0) e
          ∙ get_or-map to_ascii_lowercase word i 0 0 h,
    )

pub alike_at : (padded word : List ℕ) → str_eq_ignore_ascii_case (keyword padded) word ≡ true → (i : ℕ) → i < length word → (length word ≤ length padded) × (to_ascii_lowercase (get_or padded i 0) ≡ to_ascii_lowercase (get_or word i 0))
alike_at padded word e i h = alike_in padded word (keyword padded) (front padded _) ((bytes_eq-Decides (map to_ascii_lowercase (keyword padded)) (map to_ascii_lowercase word)).0 e) i h

-- a test of one place says so
pub alike_test : (padded word : List ℕ) (i : ℕ) (r : Bool) → r ≡ eqb (to_ascii_lowercase (get_or padded i 0)) (to_ascii_lowercase (get_or word i 0)) → i < length word → str_eq_ignore_ascii_case (keyword padded) word ≡ true → r ≡ true
alike_test padded word i r t h e = let same = (alike_at padded word e i h).1 in t ∙ eq-eqb _ _ same
