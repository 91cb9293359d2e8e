-- What a field's refusals leave is an encoding, and an encoding has no refusal.
use Rattle.std.proofs.Common.{◌≡◌, ℕ, suc, ◌+◌, ◌*◌, ◌/◌, ◌%◌, ◌<◌, ◌≤◌, ◌⊎◌, Bool, true, false, eqb, List, [], ◌∷◌, ◌++◌, length, get_or, take, drop, Option, Some, None, refl, sym, ap, ◌∙◌, arith, inl, inr}
use Rattle.std.proofs.lemmas.Bool.{ltb-false, le-ltb, eqb-true, eqb-false, eq-eqb}
use Rattle.std.proofs.lemmas.List.{take-append-drop, length-drop, drop-drop, append_assoc, length-append, drop_at}
use Rattle.std.{specs.Prelude.bit_and, specs.Prelude.not, specs.Prelude.◌&&◌, specs.Prelude.IfSome, specs.List.list_any, proofs.Math.Nat.mod-lt}
use Rattle.byteorder.specs.{Endian.big_number, Endian.big_bytes, Numbers.big_from-lt, Numbers.big_number-reads_back, Numbers.length-bytes_high_first}
use Rattle.of_wire.{specs.declared.code.Code.Code, specs.Refusals.first_of, proofs.Numbers.IsBytes, proofs.Numbers.IsBytes-drop, proofs.Numbers.big_bytes-big_number}
use Rattle.of_layers.specs.Fields.{number_of, bytes_of, ones_of, is_maskable, field_at}
use Rattle.of_layers.{specs.declared.field.Field.Field, proofs.Table.field_at-number_of, proofs.Table.number_of-field_at, proofs.Table.value_below}
use Rattle.of_oxm.specs.MatchFieldWire.{encoding, IsEncoded, IsAllowedMask, body_len, is_masked_at, number_at, value_at, mask_of_bytes, match_field_of, field_refusals, known_field_refusals}
use Rattle.of_oxm.specs.declared.match_field.MatchField.{MatchField}

-- ---- lists of refusals

-- no refusal of the list applies
abbrev pub NoneApplies : List (Bool × Code) → Type 0
NoneApplies [] = Unit {0}
NoneApplies (r ∷ rs) = (r.0 ≡ false) × NoneApplies rs

first_none : (b : Bool) (code : Code) (rs : List (Bool × Code)) → first_of ((b, code) ∷ rs) ≡ None → (b ≡ false) × (first_of rs ≡ None)
first_none true code rs e = absurd cc
first_none false code rs e = (refl, e)

pub none_applies : (rs : List (Bool × Code)) → first_of rs ≡ None → NoneApplies rs
none_applies [] e = tt
none_applies (r ∷ rs) e = let p = first_none r.0 r.1 rs e in (p.0, none_applies rs p.1)

pub none_first : (rs : List (Bool × Code)) → NoneApplies rs → first_of rs ≡ None
none_first [] h = refl
none_first (r ∷ rs) h = rw (h.0) (none_first rs h.1)

-- ---- a field that is read is encoded so

-- a field, once it is known which
pub record IsRead (e : MatchField) (seen : List MatchField) (rest : List ℕ) : Type 0 where
  pub encoded : IsEncoded e
  pub first : list_any (λ x. eqb (number_of x.field) (number_of e.field)) seen ≡ false
  pub text : rest ≡ encoding e ++ drop (4 + get_or rest 3 0) rest

both_false : (a b : Bool) → (a && b) ≡ false → (a ≡ false) ⊎ (b ≡ false)
both_false true b h = inr h
both_false false b h = inl refl

and_none : (a : Bool) → (a && false) ≡ false
and_none true = refl
and_none false = refl

pub not_false : (a : Bool) → not a ≡ false → a ≡ true
not_false true h = refl
not_false false h = absurd cc

bytes_plain : (n : ℕ) (tail : List ℕ) → n ≤ length tail → IsBytes tail → tail ≡ (big_bytes n (big_number n tail) ++ []) ++ drop n tail
bytes_plain n tail h fits = rw (big_bytes-big_number n tail h fits) (sym (simp append_assoc (take-append-drop n tail)))

bytes_masked : (n : ℕ) (tail : List ℕ) → 2 * n ≤ length tail → IsBytes tail → tail ≡ (big_bytes n (big_number n tail) ++ big_bytes n (big_number n (drop n tail))) ++ drop (2 * n) tail
bytes_masked n tail h fits =
    let long : n ≤ length tail = omega arith in
    let longer : n ≤ length (drop n tail) = omega (arith, length-drop n tail) in
    let twice : drop n (drop n tail) ≡ drop (2 * n) tail = drop-drop n n tail ∙ ap (λ (k : ℕ). drop k tail) (omega arith) in
    let cut : tail ≡ take n tail ++ (take n (drop n tail) ++ drop n (drop n tail)) = sym (ap (λ (x : List ℕ). take n tail ++ x) (take-append-drop n (drop n tail)) ∙ take-append-drop n tail) in
    rw (big_bytes-big_number n tail long fits, big_bytes-big_number n (drop n tail) longer (IsBytes-drop n tail fits), ← twice) (cut ∙ sym (append_assoc (take n tail) (take n (drop n tail)) (drop n (drop n tail))))

-- what the tests of a known field leave
known : (f : Field) (seen : List MatchField) (rest : List ℕ) → IsBytes rest → 4 ≤ length rest → 4 + get_or rest 3 0 ≤ length rest → big_number 2 rest ≡ 0x8000 → number_of f ≡ get_or rest 2 0 / 2
    → first_of (known_field_refusals f seen rest) ≡ None → IsRead (match_field_of f rest) seen rest
unfolding encoding
known f seen (a ∷ b ∷ c ∷ d ∷ tail) fits h4 hd class number none =
    let rest = a ∷ b ∷ c ∷ d ∷ tail in
    let t = none_applies (known_field_refusals f seen rest) none in
    let len : d ≡ body_len f (is_masked_at rest) = eqb-true _ _ (not_false _ t.0) in
    let high : a ≡ 128 = omega (arith, fits 0, fits 1) in
    let low : b ≡ 0 = omega (arith, fits 0, fits 1) in
    let value_fits : value_at f rest ≤ ones_of f = ltb-false _ _ t.1.1.1.0 in
    let tail_fits : IsBytes tail = λ i. fits (suc (suc (suc (suc i)))) in
    let may_be : (not (is_maskable f) && not (eqb (bit_and (mask_of_bytes f rest) (ones_of f)) (ones_of f))) ≡ false → (is_maskable f ≡ true) ⊎ (bit_and (mask_of_bytes f rest) (ones_of f) ≡ ones_of f)
    = λ h. elim (both_false _ _ h) [ inl p ↦ inl (not_false _ p) | inr p ↦ inr (eqb-true _ _ (not_false _ p)) ] in
    let split : (m : Bool) → is_masked_at rest ≡ m → IsRead (match_field_of f rest) seen rest
    = λ m. elim m as (λ m. is_masked_at rest ≡ m → IsRead (match_field_of f rest) seen rest) [
      | true ↦ λ masked.
          let mask_test = rw masked at t.1.1.0 in
          let value_test = rw masked at t.1.1.1.1.0 in
          let d_is : d ≡ 2 * bytes_of f = len ∙ ap (body_len f) masked in
          let c_is : c ≡ 2 * number_of f + 1 = omega (arith, number, eqb-true (c % 2) 1 masked) in
          let after : drop (4 + d) rest ≡ drop (2 * bytes_of f) tail = sym (drop-drop d 4 rest) ∙ ap (λ (k : ℕ). drop k tail) d_is in
          let body = bytes_masked (bytes_of f) tail (omega arith) tail_fits in
          rw masked (record {
            encoded = record { value = value_fits; mask = record { fits = big_from-lt 0 (bytes_of f) (drop (bytes_of f) tail) (IsBytes-drop (bytes_of f) tail tail_fits); allowed = may_be mask_test; covers = eqb-true _ _ (not_false _ value_test) } };
            first = t.1.0;
            text = cc;
          })
      | false ↦ λ masked.
          let d_is : d ≡ bytes_of f = len ∙ ap (body_len f) masked in
          let bit : c % 2 < 2 = mod-lt c (omega arith) in
          let c_is : c ≡ 2 * number_of f + 0 = omega (arith, number, eqb-false (c % 2) 1 masked) in
          let after : drop (4 + d) rest ≡ drop (bytes_of f) tail = sym (drop-drop d 4 rest) ∙ ap (λ (k : ℕ). drop k tail) d_is in
          let body = bytes_plain (bytes_of f) tail (omega arith) tail_fits in
          rw masked (record { encoded = record { value = value_fits; mask = tt }; first = t.1.0; text = cc })
    ] in
    split (is_masked_at rest) refl
known f seen [] fits h4 hd class number none = absurd (omega arith)
known f seen (a ∷ []) fits h4 hd class number none = absurd (omega arith)
known f seen (a ∷ b ∷ []) fits h4 hd class number none = absurd (omega arith)
known f seen (a ∷ b ∷ c ∷ []) fits h4 hd class number none = absurd (omega arith)

pub field_takes : (f : Field) (seen : List MatchField) (rest : List ℕ) → IsBytes rest → first_of (field_refusals seen rest) ≡ None → field_at (number_at rest) ≡ Some f → IsRead (match_field_of f rest) seen rest
field_takes f seen rest fits none at =
    let t = none_applies (field_refusals seen rest) none in
    let others = rw at at t.1.1.1 in
    known f seen rest fits (ltb-false _ _ t.0) (ltb-false _ _ t.1.0) (eqb-true _ _ (not_false _ t.1.1.0)) (number_of-field_at (number_at rest) f at) (none_first (known_field_refusals f seen rest) others)

-- ---- an encoding is read

refusals_none : (f : Field) (seen : List MatchField) (rest : List ℕ) → 4 ≤ length rest → 4 + get_or rest 3 0 ≤ length rest → big_number 2 rest ≡ 0x8000 → field_at (number_at rest) ≡ Some f
    → NoneApplies (known_field_refusals f seen rest) → first_of (field_refusals seen rest) ≡ None
refusals_none f seen rest h4 hd class at known =
    let t : NoneApplies (field_refusals seen rest) = (le-ltb _ _ h4, (le-ltb _ _ hd, (ap not (eq-eqb _ _ class), rw at known))) in
    none_first (field_refusals seen rest) t

pub record IsFound (e : MatchField) (seen : List MatchField) (rest : List ℕ) (size : ℕ) : Type 0 where
  pub none : first_of (field_refusals seen rest) ≡ None
  pub at : field_at (number_at rest) ≡ Some e.field
  pub same : match_field_of e.field rest ≡ e
  pub size_is : 4 + get_or rest 3 0 ≡ size

known_plain : (f : Field) (seen : List MatchField) (rest : List ℕ) → is_masked_at rest ≡ false → get_or rest 3 0 ≡ bytes_of f → list_any (λ y. eqb (number_of y.field) (number_of f)) seen ≡ false
    → value_at f rest ≤ ones_of f → NoneApplies (known_field_refusals f seen rest)
known_plain f seen rest masked len first fits =
    let size : not (eqb (get_or rest 3 0) (body_len f false)) ≡ false = ap not (eq-eqb _ _ len) in
    rw masked (size, (first, (refl, (le-ltb _ _ fits, (refl, tt)))))

not_covered : (f : Field) (a b : ℕ) → (is_maskable f ≡ true) ⊎ (a ≡ b) → (not (is_maskable f) && not (eqb a b)) ≡ false
not_covered f a b h = elim h [
  | inl p ↦ ap (λ (m : Bool). not m && not (eqb a b)) p
  | inr q ↦ ap (λ (m : Bool). not (is_maskable f) && not m) (eq-eqb a b q) ∙ and_none (not (is_maskable f))
]

known_masked : (f : Field) (seen : List MatchField) (rest : List ℕ) → is_masked_at rest ≡ true → get_or rest 3 0 ≡ 2 * bytes_of f → list_any (λ y. eqb (number_of y.field) (number_of f)) seen ≡ false
    → value_at f rest ≤ ones_of f → IsAllowedMask f (value_at f rest) (mask_of_bytes f rest) → NoneApplies (known_field_refusals f seen rest)
known_masked f seen rest masked len first fits mask =
    let size : not (eqb (get_or rest 3 0) (body_len f true)) ≡ false = ap not (eq-eqb _ _ len) in
    rw masked (size, (first, (not_covered f _ _ mask.allowed, (le-ltb _ _ fits, (ap not (eq-eqb _ _ mask.covers), tt)))))

made_plain : (f : Field) (v : ℕ) (rest : List ℕ) → is_masked_at rest ≡ false → value_at f rest ≡ v → let e : MatchField = record { field = f; value = v; mask = None } in match_field_of f rest ≡ e
made_plain f v rest masked value = rw (masked, value) refl

made_masked : (f : Field) (v m : ℕ) (rest : List ℕ) → is_masked_at rest ≡ true → value_at f rest ≡ v → mask_of_bytes f rest ≡ m → let e : MatchField = record { field = f; value = v; mask = Some m } in match_field_of f rest ≡ e
made_masked f v m rest masked value mask = rw (masked, value, mask) refl

plain_found : (f : Field) (v : ℕ) (seen : List MatchField) (x : List ℕ) → v ≤ ones_of f → list_any (λ y. eqb (number_of y.field) (number_of f)) seen ≡ false
    → let e : MatchField = record { field = f; value = v; mask = None } in IsFound e seen (encoding e ++ x) (length (encoding e))
unfolding encoding
plain_found f v seen x fits first =
    let e : MatchField = record { field = f; value = v; mask = None } in
    let rest = encoding e ++ x in
    let n = bytes_of f in
    let len : length (big_bytes n v) ≡ n = length-bytes_high_first n v in
    let bit : (2 * number_of f + 0) % 2 ≡ 0 = omega arith in
    let masked : is_masked_at rest ≡ false = ap (λ (k : ℕ). eqb k 1) bit in
    let number : number_at rest ≡ number_of f = omega arith in
    let at : field_at (number_at rest) ≡ Some f = ap field_at number ∙ field_at-number_of f in
    let value : value_at f rest ≡ v = ap (big_number n) (simp append_assoc) ∙ big_number-reads_back n v ([] ++ x) (value_below f v fits) in
    let size : length rest ≡ 4 + (n + length x) = simp length-append (omega (arith, len)) in
    let known = known_plain f seen rest masked refl first (rw value fits) in
    record {
      none = refusals_none f seen rest (omega (arith, size)) (omega (arith, size)) refl at known;
      at = at;
      same = made_plain f v rest masked value;
      size_is = simp length-append (omega (arith, len));
    }

masked_found : (f : Field) (v m : ℕ) (seen : List MatchField) (x : List ℕ) → v ≤ ones_of f → IsAllowedMask f v m → list_any (λ y. eqb (number_of y.field) (number_of f)) seen ≡ false
    → let e : MatchField = record { field = f; value = v; mask = Some m } in IsFound e seen (encoding e ++ x) (length (encoding e))
unfolding encoding
masked_found f v m seen x fits mask first =
    let e : MatchField = record { field = f; value = v; mask = Some m } in
    let rest = encoding e ++ x in
    let n = bytes_of f in
    let len : length (big_bytes n v) ≡ n = length-bytes_high_first n v in
    let len2 : length (big_bytes n m) ≡ n = length-bytes_high_first n m in
    let bit : (2 * number_of f + 1) % 2 ≡ 1 = omega arith in
    let masked : is_masked_at rest ≡ true = ap (λ (k : ℕ). eqb k 1) bit in
    let number : number_at rest ≡ number_of f = omega arith in
    let at : field_at (number_at rest) ≡ Some f = ap field_at number ∙ field_at-number_of f in
    let body : drop 4 rest ≡ big_bytes n v ++ (big_bytes n m ++ x) = append_assoc (big_bytes n v) (big_bytes n m) x in
    let value : value_at f rest ≡ v = ap (big_number n) body ∙ big_number-reads_back n v (big_bytes n m ++ x) (value_below f v fits) in
    let mask_is : mask_of_bytes f rest ≡ m = ap (λ (y : List ℕ). big_number n (drop n y)) body ∙ ap (big_number n) (drop_at (big_bytes n v) (big_bytes n m ++ x) n len) ∙ big_number-reads_back n m x (mask.fits) in
    let size : length rest ≡ 4 + (2 * n + length x) = simp length-append (omega (arith, len, len2)) in
    let known = known_masked f seen rest masked refl first (rw value fits) (rw (value, mask_is) mask) in
    record {
      none = refusals_none f seen rest (omega (arith, size)) (omega (arith, size)) refl at known;
      at = at;
      same = made_masked f v m rest masked value mask_is;
      size_is = simp length-append (omega (arith, len, len2));
    }

found : (f : Field) (v : ℕ) (mask : Option ℕ) (seen : List MatchField) (x : List ℕ) → v ≤ ones_of f → IfSome mask (IsAllowedMask f v) → list_any (λ y. eqb (number_of y.field) (number_of f)) seen ≡ false
    → let e : MatchField = record { field = f; value = v; mask = mask } in IsFound e seen (encoding e ++ x) (length (encoding e))
found f v None seen x fits mask first = plain_found f v seen x fits first
found f v (Some m) seen x fits mask first = masked_found f v m seen x fits mask first

-- a field that is encoded is read, whatever follows
pub field_again : (e : MatchField) (seen : List MatchField) (x : List ℕ) → IsEncoded e → list_any (λ y. eqb (number_of y.field) (number_of e.field)) seen ≡ false → IsFound e seen (encoding e ++ x) (length (encoding e))
field_again e seen x encoded first = found e.field e.value e.mask seen x encoded.value encoded.mask first
