-- A match as a whole.
use Rattle.std.proofs.Common.{◌≡◌, ℕ, suc, ◌-◌, ◌≤◌, true, false, List, [], ◌∷◌, ◌++◌, length, take, drop, Some, None, refl, sym, ap, subst, ◌∙◌, arith}
use Rattle.std.{specs.List.AllByRecursion, proofs.lemmas.Bool.ltb-false, proofs.lemmas.Bool.eqb-true}
use Rattle.std.proofs.lemmas.List.{append-nil, length-take, take-append-drop, take-take}
use Rattle.byteorder.specs.{Endian.big_number, Endian.big_bytes, Numbers.big_from-lt}
use Rattle.of_wire.{specs.declared.code.ReadError.ReadError, specs.Refusals.first_of, specs.Refusals.refusal, specs.Failures.Fails, proofs.Numbers.IsBytes, proofs.Numbers.big_bytes-big_number}
use Rattle.of_wire.specs.declared.code.ReadError.TheVariants as errors
use Rattle.of_oxm.specs.MatchGrammar.{encodings, IsEnd, Fields, IsFaulty, match_len, padded, match_body, match_head_refusals, EncodesMatch, IsRefusedMatch}
use Rattle.of_oxm.specs.{declared.match_field.MatchField.MatchField, NormalForm.normal, NormalForm.IsMatch, NormalForm.IsKept, NormalForm.IsAscending, Prerequisites.prerequisites_met}
use Rattle.of_oxm.proofs.{Normal.rising_normal, Normal.or_false, MatchFieldLemmas.none_applies, MatchFieldLemmas.not_false}

pub field_refused : (bytes body : List ℕ) (e : ReadError) → first_of (match_head_refusals bytes) ≡ None → body ≡ match_body bytes → Fails (IsFaulty body) e → Fails (IsRefusedMatch bytes) e
field_refused bytes body errors.Memory none body_is h = tt
field_refused bytes body (errors.Refused code) none body_is h = IsRefusedMatch.field none h.0 (subst (λ (b : List ℕ). Fields [] b h.0 (Some code)) body_is h.1)

pub need_refused : (bytes body : List ℕ) (fields kept_fields : List MatchField) → first_of (match_head_refusals bytes) ≡ None → body ≡ match_body bytes → Fields [] body fields None → kept_fields ≡ normal fields → prerequisites_met kept_fields ≡ false → IsRefusedMatch bytes (refusal 4 9)
need_refused bytes body fields kept_fields none body_is walk normal_is met =
    IsRefusedMatch.need none fields (subst (λ (b : List ℕ). Fields [] b fields None) body_is walk) (subst (λ (m : List MatchField). prerequisites_met m ≡ false) normal_is met) refl

no_rest : (seen : List MatchField) (rest : List ℕ) → IsEnd seen rest None → rest ≡ []
no_rest seen [] h = refl
no_rest seen (b ∷ bs) h = let none : false ≡ true = h.1 in absurd cc

pub encoded : (bytes : List ℕ) (fields : List MatchField) (m : List MatchField) → IsBytes bytes → 4 ≤ length bytes → big_number 2 bytes ≡ 1 → 4 ≤ match_len bytes → padded (match_len bytes) ≤ length bytes
    → Fields [] (match_body bytes) fields None → m ≡ normal fields → prerequisites_met m ≡ true → EncodesMatch (take (padded (match_len bytes)) bytes) m
encoded (a ∷ b ∷ c ∷ d ∷ tail) fields m fits h4 kind low high walk normal_is met =
    let bytes = a ∷ b ∷ c ∷ d ∷ tail in
    let len = match_len bytes in
    let more = padded len - 4 in
    let a_is : a ≡ 0 = omega (arith, fits 0, fits 1) in
    let b_is : b ≡ 1 = omega (arith, fits 0, fits 1) in
    let len_le : len ≤ padded len = omega arith in
    let more_is : padded len ≡ suc (suc (suc (suc more))) = omega arith in
    let cut : take (padded len) bytes ≡ a ∷ b ∷ c ∷ d ∷ take more tail = ap (λ (k : ℕ). take k bytes) more_is in
    let two : big_bytes 2 len ≡ c ∷ d ∷ [] = big_bytes-big_number 2 (c ∷ d ∷ tail) (omega arith) (λ i. fits (suc (suc i))) in
    let body : take (len - 4) tail ≡ encodings fields = walk.whole ∙ ap (λ (t : List ℕ). encodings fields ++ t) (no_rest ([] ++ fields) walk.rest walk.ended) ∙ append-nil (encodings fields) in
    let padding = drop (len - 4) (take more tail) in
    let front : take (len - 4) (take more tail) ≡ take (len - 4) tail = take-take (len - 4) more tail (omega arith) in
    let parts : take more tail ≡ encodings fields ++ padding = sym (take-append-drop (len - 4) (take more tail)) ∙ ap (λ (t : List ℕ). t ++ padding) (front ∙ body) in
    let cells : a ∷ b ∷ c ∷ d ∷ take more tail ≡ 0 ∷ 1 ∷ c ∷ d ∷ (encodings fields ++ padding) = cc in
    record {
      fields = fields;
      padding = padding;
      len = len;
      fine = walk.fine;
      len_is = omega (arith, ap length body, length-take (len - 4) tail);
      len_fits = big_from-lt 0 2 (c ∷ d ∷ tail) (λ i. fits (suc (suc i)));
      whole = cut ∙ cells ∙ ap (λ (t : List ℕ). 0 ∷ 1 ∷ (t ++ (encodings fields ++ padding))) (sym two);
      size = omega (arith, length-take (padded len) bytes);
      normal_form = normal_is;
      met = met;
    }
encoded [] fields m fits h4 kind low high walk normal_is met = absurd (omega arith)
encoded (a ∷ []) fields m fits h4 kind low high walk normal_is met = absurd (omega arith)
encoded (a ∷ b ∷ []) fields m fits h4 kind low high walk normal_is met = absurd (omega arith)
encoded (a ∷ b ∷ c ∷ []) fields m fits h4 kind low high walk normal_is met = absurd (omega arith)

pub is_match : (bytes : List ℕ) (fields : List MatchField) (m : List MatchField) → Fields [] bytes fields None → m ≡ normal fields → prerequisites_met m ≡ true → IsMatch m
is_match bytes fields m walk normal_is met =
    let up = rising_normal [] fields walk.fine in
    record {
      each = subst (λ (x : List MatchField). AllByRecursion IsKept x) (sym normal_is) up.1;
      rising = subst IsAscending (sym normal_is) up.0;
      met = rw met refl;
    }

pub whole_encoded : (bytes body : List ℕ) (len : ℕ) (fields m : List MatchField) → IsBytes bytes → first_of (match_head_refusals bytes) ≡ None → len ≡ match_len bytes → body ≡ match_body bytes
    → Fields [] body fields None → m ≡ normal fields → prerequisites_met m ≡ true → EncodesMatch (take (padded len) bytes) m
whole_encoded bytes body len fields m fits none len_is body_is walk normal_is met =
    let t = none_applies (match_head_refusals bytes) none in
    let p = or_false _ _ t.1.1.0 in
    subst (λ (n : ℕ). EncodesMatch (take (padded n) bytes) m) (sym len_is)
    (encoded bytes fields m fits (ltb-false _ _ t.0) (eqb-true _ _ (not_false _ t.1.0)) (ltb-false _ _ p.0) (ltb-false _ _ p.1) (subst (λ (b : List ℕ). Fields [] b fields None) body_is walk) normal_is met)
