-- Bytes begin with one encoding of a match, or have one code.
use Rattle.std.proofs.Common.{◌≡◌, ℕ, ◌-◌, ◌≤◌, Bool, true, false, ltb, List, [], ◌∷◌, ◌++◌, length, take, drop, Some, None, Result, Ok, Err, refl, sym, ap, subst, ◌∙◌, arith}
use Rattle.std.proofs.lemmas.List.{append_assoc, append-nil, length-append, take_at, take-append-drop, length-take}
use Rattle.std.{specs.Prelude.◌||◌, specs.Prelude.IfOk, specs.Prelude.IfErr, proofs.lemmas.Bool.le-ltb}
use Rattle.byteorder.specs.{Endian.big_number, Endian.big_bytes, Numbers.big_number-reads_back}
use Rattle.of_wire.specs.{declared.code.Code.Code, declared.code.ReadError.ReadError, Refusals.first_of, Failures.Fails}
use Rattle.of_wire.specs.declared.code.ReadError.TheVariants as errors
use Rattle.of_oxm.specs.MatchGrammar.{encodings, Fields, match_len, padded, match_body, match_head_refusals, EncodesMatch, IsRefusedMatch, ReadsAs, RefusesAs}
use Rattle.of_oxm.specs.{declared.match_field.MatchField.MatchField, NormalForm.normal, Prerequisites.prerequisites_met}
use Rattle.of_oxm.proofs.{MatchFieldLemmas.NoneApplies, MatchFieldLemmas.none_first, Walk.one_reading}

-- what bytes are that begin with an encoding
pub record Begins (a bytes : List ℕ) (fields : List MatchField) : Type 0 where
  pub none : first_of (match_head_refusals bytes) ≡ None
  pub walk : Fields [] (match_body bytes) fields None
  pub front : a ≡ take (padded (match_len bytes)) bytes

begins : (a x : List ℕ) (m : List MatchField) (s : EncodesMatch a m) → Begins a (a ++ x) s.fields
begins a x m s =
    let sp = encodings s.fields in
    let written : List ℕ = 0 ∷ 1 ∷ (big_bytes 2 s.len ++ (sp ++ s.padding)) in
    let all = written ++ x in
    let len_is : match_len all ≡ s.len = ap (big_number 2) (append_assoc (big_bytes 2 s.len) (sp ++ s.padding) x) ∙ big_number-reads_back 2 s.len ((sp ++ s.padding) ++ x) (omega (arith, s.len_fits)) in
    let size : length written ≡ padded s.len = ap length (sym s.whole) ∙ s.size in
    let long : padded s.len ≤ length all = omega (arith, size, length-append written x) in
    let low : 4 ≤ s.len = omega (arith, s.len_is) in
    let le : s.len ≤ padded s.len = omega arith in
    let third : (ltb (match_len all) 4 || ltb (length all) (padded (match_len all))) ≡ false =
    ap (λ (n : ℕ). ltb n 4 || ltb (length all) (padded n)) len_is ∙ ap (λ (b : Bool). b || ltb (length all) (padded s.len)) (le-ltb _ _ low) ∙ le-ltb _ _ long in
    let applies : NoneApplies (match_head_refusals all) = (le-ltb _ _ (omega (arith, long, low, le)), (refl, (third, tt))) in
    let body : match_body all ≡ sp = ap (λ (n : ℕ). take (n - 4) (drop 4 all)) len_is ∙ ap (take (s.len - 4)) (append_assoc sp s.padding x) ∙ take_at sp (s.padding ++ x) (s.len - 4) (omega (arith, s.len_is)) in
    let facts : Begins written all s.fields = record {
      none = none_first (match_head_refusals all) applies;
      walk = record { rest = []; whole = body ∙ sym (append-nil sp); fine = s.fine; ended = refl };
      front = sym (ap (λ (n : ℕ). take (padded n) all) len_is ∙ take_at written x (padded s.len) size);
    } in
    subst (λ (w : List ℕ). Begins w (w ++ x) s.fields) (sym s.whole) facts

pub one_match : (a b x y : List ℕ) (m n : List MatchField) → EncodesMatch a m → EncodesMatch b n → a ++ x ≡ b ++ y → (a ≡ b) × (m ≡ n)
one_match a b x y m n s t e =
    let p = begins a x m s in
    let q = subst (λ (bytes : List ℕ). Begins b bytes t.fields) (sym e) (begins b y n t) in
    let same = one_reading [] s.fields t.fields (match_body (a ++ x)) None None p.walk q.walk in
    (p.front ∙ sym q.front, s.normal_form ∙ ap normal same.0 ∙ sym t.normal_form)

pub not_both : (a x : List ℕ) (m : List MatchField) (code : Code) → EncodesMatch a m → IsRefusedMatch (a ++ x) code → ⊥
not_both a x m code s (IsRefusedMatch.head h) = let p = begins a x m s in cc
not_both a x m code s (IsRefusedMatch.field none fields walk) =
    let p = begins a x m s in
    let same = one_reading [] s.fields fields (match_body (a ++ x)) None (Some code) p.walk walk in
    cc
not_both a x m code s (IsRefusedMatch.need none fields walk met code_is) =
    let p = begins a x m s in
    let same = one_reading [] s.fields fields (match_body (a ++ x)) None None p.walk walk in
    let is_met : prerequisites_met (normal fields) ≡ true = ap (λ (f : List MatchField). prerequisites_met (normal f)) (sym same.0) ∙ ap prerequisites_met (sym s.normal_form) ∙ s.met in
    let h : true ≡ false = sym is_met ∙ met in
    cc

pub one_code : (bytes : List ℕ) (c d : Code) → IsRefusedMatch bytes c → IsRefusedMatch bytes d → c ≡ d
one_code bytes c d (IsRefusedMatch.head h) (IsRefusedMatch.head k) = let e : Some c ≡ Some d = sym h ∙ k in cc
one_code bytes c d (IsRefusedMatch.head h) (IsRefusedMatch.field none fields walk) = absurd cc
one_code bytes c d (IsRefusedMatch.head h) (IsRefusedMatch.need none fields walk met code_is) = absurd cc
one_code bytes c d (IsRefusedMatch.field none fields walk) (IsRefusedMatch.head k) = absurd cc
one_code bytes c d (IsRefusedMatch.field none fields walk) (IsRefusedMatch.field none' fields' walk') =
    let same = one_reading [] fields fields' (match_body bytes) (Some c) (Some d) walk walk' in cc
one_code bytes c d (IsRefusedMatch.field none fields walk) (IsRefusedMatch.need none' fields' walk' met code_is) =
    let same = one_reading [] fields fields' (match_body bytes) (Some c) None walk walk' in absurd cc
one_code bytes c d (IsRefusedMatch.need none fields walk met code_is) (IsRefusedMatch.head k) = absurd cc
one_code bytes c d (IsRefusedMatch.need none fields walk met code_is) (IsRefusedMatch.field none' fields' walk') =
    let same = one_reading [] fields fields' (match_body bytes) None (Some d) walk walk' in absurd cc
one_code bytes c d (IsRefusedMatch.need none fields walk met code_is) (IsRefusedMatch.need none' fields' walk' met' code_is') = code_is ∙ sym code_is'

-- what was read is what the bytes encode
pub is_only : (bytes : List ℕ) (r : Result (List MatchField × ℕ) ReadError) → IfOk r (λ q. q.1 ≤ length bytes) → IfOk r (λ q. EncodesMatch (take q.1 bytes) q.0) → IfErr r (Fails (IsRefusedMatch bytes))
    → (a x : List ℕ) (m : List MatchField) → EncodesMatch a m → bytes ≡ a ++ x → ReadsAs m (length a) r
is_only bytes (Ok q) size found refused a x m s e =
    let same = one_match (take q.1 bytes) a (drop q.1 bytes) x q.0 m found s (take-append-drop q.1 bytes ∙ e) in
    (same.1, sym (let e : length (take q.1 bytes) ≡ q.1 = omega (arith, size, length-take q.1 bytes) in e) ∙ ap length same.0)
is_only bytes (Err errors.Memory) size found refused a x m s e = refl
is_only bytes (Err (errors.Refused code)) size found refused a x m s e = absurd (not_both a x m code s (subst (λ (b : List ℕ). IsRefusedMatch b code) e refused))

pub is_exact : (bytes : List ℕ) (r : Result (List MatchField × ℕ) ReadError) → IfOk r (λ q. EncodesMatch (take q.1 bytes) q.0) → IfErr r (Fails (IsRefusedMatch bytes)) → (code : Code) → IsRefusedMatch bytes code → RefusesAs code r
is_exact bytes (Ok q) found refused code h = not_both (take q.1 bytes) (drop q.1 bytes) q.0 code found (subst (λ (b : List ℕ). IsRefusedMatch b code) (sym (take-append-drop q.1 bytes)) h)
is_exact bytes (Err errors.Memory) found refused code h = tt
is_exact bytes (Err (errors.Refused c)) found refused code h = one_code bytes c code refused h
