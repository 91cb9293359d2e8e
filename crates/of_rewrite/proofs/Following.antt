-- A checksum follows the change of one word.
use Rattle.std.proofs.Common.{◌≡◌, ℕ, zero, suc, ◌+◌, ◌-◌, ◌*◌, ◌/◌, ◌%◌, ◌<◌, ◌≤◌, ◌≢◌, ◌⊎◌, inl, inr, Bool, true, false, cond, List, [], ◌∷◌, ◌++◌, length, get_or, set, refl, sym, ap, ◌∙◌, arith, zero-add}
use Rattle.std.specs.Prelude.{◌==◌, not, ◌||◌, ◌&&◌, nat_le, nat_lt}
use Rattle.std.proofs.lemmas.Bool.{cases_eq, cases_lt, le-leb, lt-leb, lt-ltb, le-ltb}
use Rattle.std.proofs.{lemmas.List.get_or-set_same, lemmas.List.get_or-set_other, Math.ListN.length-set}
use Rattle.of_layers.specs.Reading.{word}
use Rattle.of_rewrite.specs.Spans.{words_at, span_words, followed, stepped_sum, with_word}
use Rattle.of_rewrite.proofs.Changes.{same_word, change_none, differ_none, or_false, change_append, differ_append, renewed_then}
use Rattle.of_rewrite.{specs.declared.sums.Sum.Sum, specs.Checksum.fold, specs.Checksum.change, specs.Checksum.differ, specs.Checksum.updated, proofs.Folding.fold_small}

-- ---- one word written

pub word_written : (at w : ℕ) (s : List ℕ) → at + 2 ≤ length s → word (with_word at w s) at ≡ w
word_written at w s h =
    let ne : at ≢ at + 1 = omega arith in
    let a : get_or (set (set s at (w / 256)) (at + 1) (w % 256)) at 0 ≡ get_or (set s at (w / 256)) at 0 = get_or-set_other (set s at (w / 256)) (at + 1) at (w % 256) 0 ne in
    let b : get_or (set s at (w / 256)) at 0 ≡ w / 256 = get_or-set_same s at (w / 256) 0 (omega arith) in
    let c : get_or (set (set s at (w / 256)) (at + 1) (w % 256)) (at + 1) 0 ≡ w % 256 = get_or-set_same (set s at (w / 256)) (at + 1) (w % 256) 0 (omega (arith, length-set {A = ℕ})) in
    rw (a, b, c) (omega arith)

byte_kept : (at w : ℕ) (s : List ℕ) (i : ℕ) → i ≢ at → i ≢ at + 1 → get_or (with_word at w s) i 0 ≡ get_or s i 0
byte_kept at w s i g h = get_or-set_other (set s at (w / 256)) (at + 1) i (w % 256) 0 h ∙ get_or-set_other s at i (w / 256) 0 g

pub word_kept : (at w : ℕ) (s : List ℕ) (i : ℕ) → at % 2 ≡ 0 → i % 2 ≡ 0 → i ≢ at → word (with_word at w s) i ≡ word s i
word_kept at w s i e f n =
    let a : get_or (with_word at w s) i 0 ≡ get_or s i 0 = byte_kept at w s i n (omega arith) in
    let b : get_or (with_word at w s) (i + 1) 0 ≡ get_or s (i + 1) 0 = byte_kept at w s (i + 1) (omega arith) (omega arith) in
    rw (a, b) refl

-- ---- words of which it is none, and words of which it is one

pub words_kept : (n a at w : ℕ) (s : List ℕ) → at % 2 ≡ 0 → a % 2 ≡ 0 → (at < a) ⊎ (a + 2 * n ≤ at) → words_at n a (with_word at w s) ≡ words_at n a s
words_kept zero a at w s e f o = refl
words_kept (suc n) a at w s e f o =
    let ne : a ≢ at = elim o [ inl l ↦ omega arith | inr r ↦ omega arith ] in
    let more : (at < a + 2) ⊎ (a + 2 + 2 * n ≤ at) = elim o [ inl l ↦ inl (omega arith) | inr r ↦ inr (omega arith) ] in
    let i : words_at n (a + 2) (with_word at w s) ≡ words_at n (a + 2) s = words_kept n (a + 2) at w s e (omega arith) more in
    λ j. word_kept at w s a e f ne j ∷ i j

-- what the change of a word from o to w adds
record Adds (t : Bool) (o w : ℕ) (old new : List ℕ) : Type 0 where
  pub change_is : change old new ≡ cond t (change (o ∷ []) (w ∷ [])) 0
  pub differ_is : differ old new ≡ cond t (not (o == w)) false
  pub long : length old ≡ length new

length_words : (n a : ℕ) (s : List ℕ) → length (words_at n a s) ≡ n
length_words zero a s = refl
length_words (suc n) a s = ap suc (length_words n (a + 2) s)

same_long : (n a : ℕ) (s t : List ℕ) → length (words_at n a s) ≡ length (words_at n a t)
same_long n a s t = length_words n a s ∙ sym (length_words n a t)

adds_none : (n a at w : ℕ) (s : List ℕ) → at % 2 ≡ 0 → a % 2 ≡ 0 → (at < a) ⊎ (a + 2 * n ≤ at) → Adds false (word s at) w (words_at n a s) (words_at n a (with_word at w s))
adds_none n a at w s e f o = record {
  change_is = rw (words_kept n a at w s e f o) (change_none (words_at n a s));
  differ_is = rw (words_kept n a at w s e f o) (differ_none (words_at n a s));
  long = same_long n a s (with_word at w s);
}

adds_one : (n a at w : ℕ) (s : List ℕ) → at + 2 ≤ length s → at % 2 ≡ 0 → a % 2 ≡ 0 → a ≤ at → at < a + 2 * n → Adds true (word s at) w (words_at n a s) (words_at n a (with_word at w s))
adds_one zero a at w s h e f g l = absurd (omega arith)
adds_one (suc n) a at w s h e f g l = elim (cases_eq a at) [
  | inl same ↦
      let k : words_at n (a + 2) (with_word at w s) ≡ words_at n (a + 2) s = words_kept n (a + 2) at w s e (omega arith) (inl (omega arith)) in
      record {
        change_is = rw (k, same, word_written at w s h, change_none (words_at n (at + 2) s)) refl;
        differ_is = rw (k, same, word_written at w s h, differ_none (words_at n (at + 2) s)) (or_false (not (word s at == w)));
        long = same_long (suc n) a s (with_word at w s);
      }
  | inr ne ↦
      let k : word (with_word at w s) a ≡ word s a = word_kept at w s a e f ne in
      let i = adds_one n (a + 2) at w s h e (omega arith) (omega arith) (omega arith) in
      record {
        change_is = rw (k, same_word (word s a)) (zero-add _ ∙ i.change_is);
        differ_is = rw (k, same_word (word s a)) i.differ_is;
        long = same_long (suc n) a s (with_word at w s);
      }
]

-- the test
adds : (n a at w : ℕ) (s : List ℕ) → at + 2 ≤ length s → at % 2 ≡ 0 → a % 2 ≡ 0 → Adds (nat_le a at && nat_lt at (a + 2 * n)) (word s at) w (words_at n a s) (words_at n a (with_word at w s))
adds n a at w s h e f = elim (cases_lt at a) [
  | inl l ↦ rw (lt-leb a at l) (adds_none n a at w s e f (inl l))
  | inr r ↦ elim (cases_lt at (a + 2 * n)) [
    | inl l ↦ rw (le-leb a at r, lt-ltb at (a + 2 * n) l) (adds_one n a at w s h e f r l)
    | inr q ↦ rw (le-leb a at r, le-ltb at (a + 2 * n) q) (adds_none n a at w s e f (inr q))
  ]
]

-- ---- the checksum

value_step : (t : Bool) (v o w d : ℕ) → v ≤ 65535 → d ≡ cond t (change (o ∷ []) (w ∷ [])) 0 → cond t (updated v (o ∷ []) (w ∷ [])) v ≡ 65535 - fold (65535 - v + d)
value_step true v o w d h e = rw e refl
value_step false v o w d h e =
    let z : 65535 - v + d ≡ 65535 - v = omega arith in
    let f : fold (65535 - v) ≡ 65535 - v = fold_small (65535 - v) (omega arith) in
    rw (z, f) (omega arith)

differ_step : (t m x d : Bool) → d ≡ cond t x false → cond t (m || x) m ≡ (m || d)
differ_step true m x d e = rw e refl
differ_step false m x d e = rw e (sym (or_false m))

stepped_is : (t : Bool) (o w : ℕ) (m : Sum) → stepped_sum t o w m ≡ record m { value = cond t (updated m.value (o ∷ []) (w ∷ [])) m.value; differs = cond t (m.differs || not (o == w)) m.differs }
stepped_is true o w m = refl
stepped_is false o w m = refl

or_assoc : (a b c : Bool) → ((a || b) || c) ≡ (a || (b || c))
or_assoc true b c = refl
or_assoc false b c = refl

with_both : (m : Sum) (v v' : ℕ) (d d' : Bool) → v ≡ v' → d ≡ d' → ◌≡◌ {A = Sum} (record m { value = v; differs = d }) (record m { value = v'; differs = d' })
with_both m v v' d d' e f = λ j. record m { value = e j; differs = f j }

follow_pair : (m : Sum) (t u : Bool) (o w : ℕ) (a a' b b' : List ℕ) → m.value ≤ 65535 → Adds t o w a a' → Adds u o w b b' →
    stepped_sum u o w (stepped_sum t o w m) ≡ record m { value = updated m.value (a ++ b) (a' ++ b'); differs = m.differs || differ (a ++ b) (a' ++ b') }
follow_pair m t u o w a a' b b' small x y =
    let v : ℕ = cond t (updated m.value (o ∷ []) (w ∷ [])) m.value in
    let first : cond t (updated m.value (o ∷ []) (w ∷ [])) m.value ≡ 65535 - fold (65535 - m.value + change a a') = value_step t m.value o w (change a a') small x.change_is in
    let low : v ≤ 65535 = omega arith in
    let second : cond u (updated v (o ∷ []) (w ∷ [])) v ≡ 65535 - fold (65535 - v + change b b') = value_step u v o w (change b b') low y.change_is in
    let value : cond u (updated v (o ∷ []) (w ∷ [])) v ≡ updated m.value (a ++ b) (a' ++ b') =
    second ∙ ap (λ (k : ℕ). 65535 - fold (65535 - k + change b b')) first ∙ renewed_then m.value (change a a') (change b b')
    ∙ ap (λ (k : ℕ). 65535 - fold (65535 - m.value + k)) (sym (change_append a a' b b' x.long)) in
    let d : Bool = cond t (m.differs || not (o == w)) m.differs in
    let differs : cond u (d || not (o == w)) d ≡ (m.differs || differ (a ++ b) (a' ++ b')) =
    differ_step u d (not (o == w)) (differ b b') y.differ_is
    ∙ ap (λ (k : Bool). k || differ b b') (differ_step t m.differs (not (o == w)) (differ a a') x.differ_is)
    ∙ or_assoc m.differs (differ a a') (differ b b') ∙ ap (λ (k : Bool). m.differs || k) (sym (differ_append a a' b b' x.long)) in
    ap (stepped_sum u o w) (stepped_is t o w m) ∙ stepped_is u o w (record m { value = v; differs = d }) ∙ with_both m _ _ _ _ value differs

pub follows : (m : Sum) (at o w : ℕ) (s : List ℕ) → m.value ≤ 65535 → at + 2 ≤ length s → word s at ≡ o → at % 2 ≡ 0 → m.front.at % 2 ≡ 0 → m.back.at % 2 ≡ 0 →
    stepped_sum (nat_le m.back.at at && nat_lt at (m.back.at + 2 * m.back.words)) o w (stepped_sum (nat_le m.front.at at && nat_lt at (m.front.at + 2 * m.front.words)) o w m)
    ≡ followed m s (with_word at w s)
follows m at o w s small h is e f g = rw (← is)
    (follow_pair m _ _ (word s at) w (span_words m.front s) (span_words m.front (with_word at w s)) (span_words m.back s) (span_words m.back (with_word at w s)) small
    (adds m.front.words m.front.at at w s h e f) (adds m.back.words m.back.at at w s h e g))
