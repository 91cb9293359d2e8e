-- What is written is an encoding.
use Rattle.std.proofs.Common.{◌≡◌, ℕ, suc, ◌+◌, ◌-◌, ◌*◌, ◌^◌, ◌<◌, ◌≤◌, Bool, false, eqb, List, [], ◌∷◌, ◌++◌, length, take, drop, replicate, Option, Some, None, refl, sym, ap, ◌∙◌, arith, inl}
use Rattle.std.{specs.Prelude.IfSome, specs.Prelude.◌||◌, specs.List.AllByRecursion, proofs.lemmas.Bool.lt-ltb, proofs.lemmas.Bool.ne_eqb}
use Rattle.std.proofs.lemmas.List.{append_assoc, length-append, length-replicate}
use Rattle.byteorder.specs.{Endian.big_bytes, Numbers.length-bytes_high_first}
use Rattle.of_layers.specs.{declared.field.Field.Field, Fields.number_of, Fields.bytes_of, Fields.ones_of}
use Rattle.of_layers.proofs.Table.{number_below, bytes_most, value_below}
use Rattle.of_oxm.specs.NormalForm.{kept, with_field, with_kept_field, normal, IsKept, IsKeptMask, IsAscending, IsMatch}
use Rattle.of_oxm.specs.{declared.match_field.MatchField.MatchField, MatchFieldWire.IsEncoded, MatchFieldWire.IsAllowedMask, MatchFieldWire.encoding, MatchFieldWire.is_among}
use Rattle.of_oxm.specs.{MatchGrammar.AreFieldsAfter, MatchGrammar.encodings, MatchGrammar.padded, MatchGrammar.EncodesMatch, Canonical.written_len, Canonical.canonical}
use Rattle.of_oxm.proofs.Normal.{among_append}
use Rattle.of_wire.proofs.Replacing.{replaced_behind}

-- ---- a field of a match has an encoding

kept_mask : (f : Field) (v : ℕ) (mask : Option ℕ) → IfSome mask (IsKeptMask f v) → IfSome mask (IsAllowedMask f v)
kept_mask f v None h = tt
kept_mask f v (Some m) h = record { fits = value_below f m (omega (arith, h.not_all)); allowed = inl h.maskable; covers = h.covers }

pub kept_encoded : (e : MatchField) → IsKept e → IsEncoded e
kept_encoded e h = record { value = h.value; mask = kept_mask e.field e.value e.mask h.mask }

pub all_encoded : (m : List MatchField) → AllByRecursion IsKept m → AllByRecursion IsEncoded m
all_encoded [] h = tt
all_encoded (e ∷ es) h = (kept_encoded e h.0, all_encoded es h.1)

-- ---- a match is its own normal form

eqb-zero : (n : ℕ) → 0 < n → eqb n 0 ≡ false
eqb-zero n h = ne_eqb n 0 (λ e. omega (arith, e, h))

kept_by : (f : Field) (v : ℕ) (mask : Option ℕ) → IfSome mask (IsKeptMask f v) → let e : MatchField = record { field = f; value = v; mask = mask } in kept e ≡ Some e
unfolding kept
kept_by f v None h = refl
kept_by f v (Some m) h = rw (h.within, eqb-zero m h.some, ne_eqb m (ones_of f) (λ e. omega (arith, e, h.not_all))) refl

kept_same : (e : MatchField) → IsKept e → kept e ≡ Some e
kept_same e h = kept_by e.field e.value e.mask h.mask

put_first : (e : MatchField) (es : List MatchField) → AllByRecursion (λ x. number_of e.field < number_of x.field) es → with_field e es ≡ e ∷ es
put_first e [] h = refl
put_first e (x ∷ xs) h = rw (lt-ltb _ _ h.0) refl

normal_same : (m : List MatchField) → AllByRecursion IsKept m → IsAscending m → normal m ≡ m
normal_same [] each up = refl
normal_same (e ∷ es) each up = ap (λ (o : Option MatchField). with_kept_field o (normal es)) (kept_same e each.0) ∙ ap (with_field e) (normal_same es each.1 up.1) ∙ put_first e es up.0

-- ---- each field occurs once

not_among : (e : MatchField) (seen es : List MatchField) → AllByRecursion (λ x. is_among x.field seen ≡ false) es → AllByRecursion (λ x. number_of e.field < number_of x.field) es → AllByRecursion (λ x. is_among x.field (seen ++ e ∷ []) ≡ false) es
not_among e seen [] h up = tt
not_among e seen (x ∷ xs) h up =
    let ne : eqb (number_of e.field) (number_of x.field) ≡ false = ne_eqb _ _ (λ s. omega (arith, s, up.0)) in
    (among_append x.field seen (e ∷ []) ∙ ap (λ (b : Bool). b || (eqb (number_of e.field) (number_of x.field) || false)) h.0 ∙ ap (λ (b : Bool). b || false) ne, not_among e seen xs h.1 up.1)

fine_rising : (seen m : List MatchField) → AllByRecursion IsKept m → IsAscending m → AllByRecursion (λ x. is_among x.field seen ≡ false) m → AreFieldsAfter seen m
fine_rising seen [] each up h = tt
fine_rising seen (e ∷ es) each up h = (kept_encoded e each.0, h.0, fine_rising (seen ++ e ∷ []) es each.1 up.1 (not_among e seen es h.1 up.0))

none_before : (m : List MatchField) → AllByRecursion (λ x. is_among x.field [] ≡ false) m
none_before [] = tt
none_before (e ∷ es) = (refl, none_before es)

-- ---- how long a match is

all_from : (n m : ℕ) (xs : List MatchField) → n ≤ m → AllByRecursion (λ x. m < number_of x.field) xs → AllByRecursion (λ x. suc n ≤ number_of x.field) xs
all_from n m [] le h = tt
all_from n m (x ∷ xs) le h = (omega (arith, h.0), all_from n m xs le h.1)

count : (m : List MatchField) (n : ℕ) → IsAscending m → AllByRecursion (λ x. n ≤ number_of x.field) m → n ≤ 31 → length m + n ≤ 31
count [] n up h le = omega arith
count (e ∷ es) n up h le =
    let here = number_below e.field in
    let rest = count es (suc (number_of e.field)) up.1 (all_from (number_of e.field) (number_of e.field) es (omega arith) up.0) (omega (arith, here)) in
    omega (arith, rest, h.0)

length-encoding : (f : Field) (v : ℕ) (mask : Option ℕ) → let e : MatchField = record { field = f; value = v; mask = mask } in length (encoding e) ≤ 36
unfolding encoding
length-encoding f v None = let b = bytes_most f in simp length-append (omega (arith, b, length-bytes_high_first (bytes_of f) v))
length-encoding f v (Some m) = let b = bytes_most f in simp length-append (omega (arith, b, length-bytes_high_first (bytes_of f) v, length-bytes_high_first (bytes_of f) m))

length-encodings : (m : List MatchField) → length (encodings m) ≤ 36 * length m
length-encodings [] = omega arith
length-encodings (e ∷ es) = omega (arith, length-append (encoding e) (encodings es), length-encoding e.field e.value e.mask, length-encodings es)

none_low : (m : List MatchField) → AllByRecursion (λ x. 0 ≤ number_of x.field) m
none_low [] = tt
none_low (e ∷ es) = (omega arith, none_low es)

pub written_fits : (m : List MatchField) → IsAscending m → written_len m < 2 ^ 16
written_fits m up = omega (arith, length-encodings m, count m 0 up (none_low m) (omega arith))

pub canonical_short : (m : List MatchField) → IsAscending m → length (canonical m) ≤ 1128
unfolding canonical
canonical_short m up =
    let len = written_len m in
    let few : len ≤ 1120 = omega (arith, length-encodings m, count m 0 up (none_low m) (omega arith)) in
    simp (length-append, length-replicate) (omega (arith, few))

pub canonical_encodes : (m : List MatchField) → IsMatch m → EncodesMatch (canonical m) m
unfolding canonical
canonical_encodes m h =
    let len = written_len m in
    let le : len ≤ padded len = omega arith in
    record {
      fields = m;
      padding = replicate (padded len - len) 0;
      len = len;
      fine = fine_rising [] m h.each h.rising (none_before m);
      len_is = refl;
      len_fits = written_fits m h.rising;
      whole = refl;
      size = simp (length-append, length-replicate) (omega arith);
      normal_form = sym (normal_same m h.each h.rising);
      met = h.met;
    }

-- a match that is appended: its type and two zeros, its fields, their length in the place of the zeros, and padding
pub is_canonical : (m fields : List MatchField) (out s1 s2 s3 s4 : List ℕ) (at n k : ℕ) → fields ≡ m → s1 ≡ out ++ 0 ∷ 1 ∷ 0 ∷ 0 ∷ [] → s2 ≡ s1 ++ encodings fields → n ≡ length s2 - length out
    → at ≡ length out + 2 → s3 ≡ take at s2 ++ (big_bytes 2 n ++ drop (at + 2) s2) → k ≡ padded n - n → s4 ≡ s3 ++ replicate k 0 → s4 ≡ out ++ canonical m
unfolding canonical
is_canonical m fields out s1 s2 s3 s4 at n k same e1 e2 n_is at_is e3 k_is e4 =
    let text : s2 ≡ (out ++ 0 ∷ 1 ∷ []) ++ 0 ∷ 0 ∷ encodings m = e2 ∙ ap (λ (x : List ℕ). x ++ encodings fields) e1 ∙ ap (λ (x : List MatchField). (out ++ 0 ∷ 1 ∷ 0 ∷ 0 ∷ []) ++ encodings x) same ∙ append_assoc out (0 ∷ 1 ∷ 0 ∷ 0 ∷ []) (encodings m) ∙ sym (append_assoc out (0 ∷ 1 ∷ []) (0 ∷ 0 ∷ encodings m)) in
    let place : at ≡ length (out ++ 0 ∷ 1 ∷ []) = omega (arith, at_is, length-append out (0 ∷ 1 ∷ [])) in
    let size : length s2 ≡ length out + (4 + length (encodings m)) = omega (arith, ap length text, length-append (out ++ 0 ∷ 1 ∷ []) (0 ∷ 0 ∷ encodings m), length-append out (0 ∷ 1 ∷ [])) in
    let len : n ≡ written_len m = omega (arith, n_is, size) in
    let whole : s3 ≡ (out ++ 0 ∷ 1 ∷ []) ++ (big_bytes 2 n ++ encodings m) = e3 ∙ replaced_behind (out ++ 0 ∷ 1 ∷ []) (encodings m) (big_bytes 2 n) s2 0 0 at text place in
    let zeros : replicate {A = ℕ} k 0 ≡ replicate (padded (written_len m) - written_len m) 0 = ap (λ (x : ℕ). replicate x 0) (k_is ∙ ap (λ (x : ℕ). padded x - x) len) in
    e4 ∙ ap (λ (x : List ℕ). x ++ replicate k 0) whole ∙ ap (λ (x : List ℕ). ((out ++ 0 ∷ 1 ∷ []) ++ (big_bytes 2 n ++ encodings m)) ++ x) zeros
    ∙ append_assoc (out ++ 0 ∷ 1 ∷ []) (big_bytes 2 n ++ encodings m) (replicate (padded (written_len m) - written_len m) 0)
    ∙ append_assoc out (0 ∷ 1 ∷ []) ((big_bytes 2 n ++ encodings m) ++ replicate (padded (written_len m) - written_len m) 0)
    ∙ ap (λ (x : List ℕ). out ++ 0 ∷ 1 ∷ x) (append_assoc (big_bytes 2 n) (encodings m) (replicate (padded (written_len m) - written_len m) 0))
    ∙ ap (λ (x : ℕ). out ++ 0 ∷ 1 ∷ (big_bytes 2 x ++ (encodings m ++ replicate (padded (written_len m) - written_len m) 0))) len
