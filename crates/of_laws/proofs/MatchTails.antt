-- A match that was computed from bytes is the one that they begin with, and back.
use Rattle.std.proofs.Common.{◌≡◌, ℕ, ◌+◌, ◌-◌, ◌≤◌, Bool, true, false, ltb, cond, List, [], ◌∷◌, ◌++◌, length, get_or, take, drop, Option, Some, None, Result, Ok, Err, refl, sym, ap, subst, ◌∙◌, arith, ◌<◌, ◌^◌}
use Rattle.std.{specs.Prelude.◌||◌, specs.Prelude.IsSome, specs.Option.option_map, specs.Option.option_map_or, proofs.lemmas.Bool.le-ltb}
use Rattle.std.proofs.lemmas.List.{append_assoc, append-nil, length-append, take_at}
use Rattle.byteorder.specs.{Endian.big_number, Endian.big_bytes, Numbers.big_number-reads_back}
use Rattle.of_wire.specs.{declared.code.Code.Code, Refusals.first_of, Items.AreItems, Items.TakesBytes, Items.items_from}
use Rattle.of_wire.proofs.Numbers.{IsBytes, IsBytes-drop, IsBytes-take}
use Rattle.of_layers.specs.{declared.field.Field.Field, Fields.field_at}
use Rattle.of_oxm.specs.MatchFieldWire.{encoding, number_at, match_field_of, field_refusals, known_field_refusals}
use Rattle.of_oxm.specs.MatchGrammar.{encodings, AreFieldsAfter, Fields, match_len, padded, match_body, match_head_refusals, EncodesMatch}
use Rattle.of_oxm.specs.{declared.match_field.MatchField.MatchField, MatchReading.match_fields, MatchReading.then_normal, MatchReading.match_by, MatchReading.match_of, NormalForm.normal}
use Rattle.of_oxm.{specs.Prerequisites.prerequisites_met, proofs.Computed.found_computed}
use Rattle.of_oxm.proofs.{MatchFieldLemmas.NoneApplies, MatchFieldLemmas.none_first, MatchFieldLemmas.IsRead, MatchFieldLemmas.field_takes, Whole.whole_encoded}
use Rattle.of_laws.proofs.{ActionTails.behind_none, Items.HasValues, Items.are_items}

-- ---- from bytes to a match

some_field : (seen : List MatchField) (rest : List ℕ) (o : Option Field) (code : Code) → first_of (option_map_or (λ (f : Field). known_field_refusals f seen rest) o ((true, code) ∷ [])) ≡ None → IsSome (option_map (λ (f : Field). match_field_of f rest) o)
some_field seen rest None code none = absurd cc
some_field seen rest (Some f) code none = refl

fields_have : HasValues match_fields
fields_have seen bytes some none = some_field seen bytes (field_at (number_at bytes)) _ (behind_none 3 (field_refusals seen bytes) none)

fields_take : TakesBytes match_fields
fields_take seen bytes some none = omega arith

field_read : (seen : List MatchField) (rest : List ℕ) (e : MatchField) (o : Option Field) → IsBytes rest → first_of (field_refusals seen rest) ≡ None → field_at (number_at rest) ≡ o → option_map (λ (f : Field). match_field_of f rest) o ≡ Some e → IsRead e seen rest
field_read seen rest e None fits none at value = absurd cc
field_read seen rest e (Some f) fits none at value =
    let same : match_field_of f rest ≡ e = cc in
    subst (λ (x : MatchField). IsRead x seen rest) same (field_takes f seen rest fits none at)

record Read (seen : List MatchField) (bytes : List ℕ) (fields : List MatchField) : Type 0 where
  whole : bytes ≡ encodings fields
  fine : AreFieldsAfter seen fields

read_so : (seen fs : List MatchField) (bytes : List ℕ) → IsBytes bytes → AreItems match_fields seen bytes fs None → Read seen bytes fs
read_so seen [] [] fits h = record { whole = refl; fine = tt }
read_so seen [] (b ∷ bs) fits h = let none : false ≡ true = h.1 in absurd cc
read_so seen (e ∷ es) bytes fits h =
    let one = field_read seen bytes e (field_at (number_at bytes)) fits h.1 refl h.2 in
    let after = drop (4 + get_or bytes 3 0) bytes in
    let others = read_so (seen ++ e ∷ []) es after (IsBytes-drop (4 + get_or bytes 3 0) bytes fits) h.3 in
    record { whole = one.text ∙ ap (λ (x : List ℕ). encoding e ++ x) others.whole; fine = (one.encoded, one.first, others.fine) }

fields_found : (body : List ℕ) (fields : List MatchField) → IsBytes body → items_from match_fields (length body) [] body ≡ Ok fields → Fields [] body fields None
fields_found body fields fits h =
    let r = read_so [] fields body fits (are_items match_fields body fields fields_take fields_have h) in
    record { rest = []; whole = r.whole ∙ sym (append-nil (encodings fields)); fine = r.fine; ended = refl }

parts : (a c : List MatchField) (b d : ℕ) → ◌≡◌ {A = Result (List MatchField × ℕ) Code} (Ok (a, b)) (Ok (c, d)) → (a ≡ c) × (b ≡ d)
parts a c b d e = let both : (a, b) ≡ (c, d) = cc in (ap (λ (p : List MatchField × ℕ). p.0) both, ap (λ (p : List MatchField × ℕ). p.1) both)

pub match_found : (bytes : List ℕ) (m : List MatchField) (n : ℕ) → IsBytes bytes → match_of bytes ≡ Ok (m, n) → EncodesMatch (take n bytes) m
unfolding match_of
match_found bytes m n fits h = by_head (first_of (match_head_refusals bytes)) refl h
  where
    by_met : (none : first_of (match_head_refusals bytes) ≡ None) (fields : List MatchField) → Fields [] (match_body bytes) fields None → (met : Bool) → prerequisites_met (normal fields) ≡ met
        → cond {A = Result (List MatchField × ℕ) Code} met (Ok (normal fields, padded (match_len bytes))) (Err (record { kind = 4; code = 9 })) ≡ Ok (m, n) → EncodesMatch (take n bytes) m
    by_met none fields walk false met e = absurd cc
    by_met none fields walk true met e =
        let both = parts (normal fields) m (padded (match_len bytes)) n e in
        let same = both.0 in
        let size = both.1 in
        subst (λ (k : ℕ). EncodesMatch (take k bytes) m) size
        (whole_encoded bytes (match_body bytes) (match_len bytes) fields m fits none refl refl walk (sym same) (ap prerequisites_met (sym same) ∙ met))

    by_fields : (none : first_of (match_head_refusals bytes) ≡ None) (r : Result (List MatchField) Code) → items_from match_fields (length (match_body bytes)) [] (match_body bytes) ≡ r → then_normal (padded (match_len bytes)) r ≡ Ok (m, n) → EncodesMatch (take n bytes) m
    by_fields none (Err code) is e = absurd cc
    by_fields none (Ok fields) is e =
        by_met none fields (fields_found (match_body bytes) fields (IsBytes-take (match_len bytes - 4) (drop 4 bytes) (IsBytes-drop 4 bytes fits)) is) (prerequisites_met (normal fields)) refl e

    by_head : (o : Option Code) → first_of (match_head_refusals bytes) ≡ o → match_by bytes o ≡ Ok (m, n) → EncodesMatch (take n bytes) m
    by_head (Some code) none e = absurd cc
    by_head None none e = by_fields none (items_from match_fields (length (match_body bytes)) [] (match_body bytes)) refl e

-- what is read as a match, and in how many bytes
abbrev pub fields_in : Result (List MatchField × ℕ) Code → List MatchField
fields_in (Ok r) = r.0
fields_in (Err code) = []

abbrev pub size_in : Result (List MatchField × ℕ) Code → ℕ
size_in (Ok r) = r.1
size_in (Err code) = 0

-- ---- from a match to bytes

-- what bytes are that begin with a head, with what stands for fields, and with padding
pub record Headed (fields bytes : List ℕ) (len : ℕ) : Type 0 where
  pub none : first_of (match_head_refusals bytes) ≡ None
  pub len_is : match_len bytes ≡ len
  pub body : match_body bytes ≡ fields

pub headed : (fields padding x : List ℕ) (len : ℕ) → len ≡ 4 + length fields → len < 2 ^ 16 → length (0 ∷ 1 ∷ (big_bytes 2 len ++ (fields ++ padding))) ≡ padded len → Headed fields ((0 ∷ 1 ∷ (big_bytes 2 len ++ (fields ++ padding))) ++ x) len
headed fields padding x len len_is fits size =
    let written : List ℕ = 0 ∷ 1 ∷ (big_bytes 2 len ++ (fields ++ padding)) in
    let all = written ++ x in
    let same : match_len all ≡ len = ap (big_number 2) (append_assoc (big_bytes 2 len) (fields ++ padding) x) ∙ big_number-reads_back 2 len ((fields ++ padding) ++ x) (omega (arith, fits)) in
    let long : padded len ≤ length all = omega (arith, size, length-append written x) in
    let low : 4 ≤ len = omega (arith, len_is) in
    let le : len ≤ padded len = omega arith in
    let third : (ltb (match_len all) 4 || ltb (length all) (padded (match_len all))) ≡ false =
    ap (λ (n : ℕ). ltb n 4 || ltb (length all) (padded n)) same ∙ ap (λ (b : Bool). b || ltb (length all) (padded len)) (le-ltb _ _ low) ∙ le-ltb _ _ long in
    let applies : NoneApplies (match_head_refusals all) = (le-ltb _ _ (omega (arith, long, low, le)), (refl, (third, tt))) in
    record {
      none = none_first (match_head_refusals all) applies;
      len_is = same;
      body = ap (λ (n : ℕ). take (n - 4) (drop 4 all)) same ∙ ap (take (len - 4)) (append_assoc fields padding x) ∙ take_at fields (padding ++ x) (len - 4) (omega (arith, len_is));
    }

-- what bytes are that begin with an encoding
record Begun (a bytes : List ℕ) (fields : List MatchField) (len : ℕ) : Type 0 where
  none : first_of (match_head_refusals bytes) ≡ None
  len_is : len ≡ match_len bytes
  walk : Fields [] (match_body bytes) fields None

begun : (a x : List ℕ) (m : List MatchField) (s : EncodesMatch a m) → Begun a (a ++ x) s.fields s.len
begun a x m s =
    let sp = encodings s.fields in
    let written : List ℕ = 0 ∷ 1 ∷ (big_bytes 2 s.len ++ (sp ++ s.padding)) in
    let h = headed sp s.padding x s.len s.len_is s.len_fits (ap length (sym s.whole) ∙ s.size) in
    let facts : Begun written (written ++ x) s.fields s.len = record {
      none = h.none;
      len_is = sym h.len_is;
      walk = record { rest = []; whole = h.body ∙ sym (append-nil sp); fine = s.fine; ended = refl };
    } in
    subst (λ (w : List ℕ). Begun w (w ++ x) s.fields s.len) (sym s.whole) facts

pub match_only : (a x : List ℕ) (m : List MatchField) → EncodesMatch a m → match_of (a ++ x) ≡ Ok (m, length a)
match_only a x m s =
    let b = begun a x m s in
    found_computed (a ++ x) (match_body (a ++ x)) s.len s.fields m b.none b.len_is refl b.walk s.normal_form s.met ∙ ap (λ (n : ℕ). Ok (m, n)) (sym s.size)
