-- A number is written piece by piece, and checksums follow.
use Rattle.std.proofs.Common.{◌≡◌, ℕ, zero, suc, ◌+◌, ◌-◌, ◌*◌, ◌/◌, ◌%◌, ◌^◌, ◌<◌, ◌≤◌, ◌≢◌, ◌⊎◌, inl, inr, Bool, List, [], ◌∷◌, ◌++◌, length, take, drop, refl, sym, ap, ◌∙◌, arith}
use Rattle.std.{specs.Prelude.min, specs.Prelude.◌||◌, proofs.lemmas.Bool.cases_eq, proofs.lemmas.List.take-append-drop}
use Rattle.of_layers.{specs.Bits.bits, specs.Bits.bits_of, specs.Reading.word, proofs.BitLemmas.length-bits_of}
use Rattle.of_rewrite.specs.Spans.{over_bits, words_at, span_words, covered_words, followed, both_followed, AreEven, IsEven}
use Rattle.of_rewrite.proofs.Changes.{Apart, change_over, renewed_then, renewed_same, differ_none, or_false, or_right}
use Rattle.of_rewrite.specs.{declared.sums.Sum.Sum, declared.sums.Sums.Sums, Checksum.fold, Checksum.change, Checksum.differ, Checksum.updated}
use Rattle.of_rewrite.proofs.Putting.{put_parts, bits_lower}

-- each word of even place changes in one of two steps at most
abbrev pub Steps : List ℕ → List ℕ → List ℕ → Type 0
Steps a b c = (i : ℕ) → i % 2 ≡ 0 → (word a i ≡ word b i) ⊎ (word b i ≡ word c i)

words_apart : (n at : ℕ) (a b c : List ℕ) → at % 2 ≡ 0 → Steps a b c → Apart (words_at n at a) (words_at n at b) (words_at n at c)
words_apart zero at a b c e h = tt
words_apart (suc n) at a b c e h = (h at e, words_apart n (at + 2) a b c (omega arith) h)

apart_append : (a b c x y z : List ℕ) → Apart a b c → Apart x y z → Apart (a ++ x) (b ++ y) (c ++ z)
apart_append [] [] [] x y z h k = k
apart_append [] [] (p ∷ c) x y z h k = absurd h
apart_append [] (q ∷ b) c x y z h k = absurd h
apart_append (r ∷ a) [] c x y z h k = absurd h
apart_append (r ∷ a) (q ∷ b) [] x y z h k = absurd h
apart_append (r ∷ a) (q ∷ b) (p ∷ c) x y z h k = (h.0, apart_append a b c x y z h.1 k)

covered_apart : (m : Sum) (a b c : List ℕ) → IsEven m → Steps a b c → Apart (covered_words m a) (covered_words m b) (covered_words m c)
covered_apart m a b c e h =
    apart_append (span_words m.front a) (span_words m.front b) (span_words m.front c) (span_words m.back a) (span_words m.back b) (span_words m.back c)
    (words_apart m.front.words m.front.at a b c e.0 h) (words_apart m.back.words m.back.at a b c e.1 h)

followed_then : (m : Sum) (a b c : List ℕ) → IsEven m → Steps a b c → followed (followed m a b) b c ≡ followed m a c
followed_then m a b c e h =
    let o = change_over (covered_words m a) (covered_words m b) (covered_words m c) (covered_apart m a b c e h) in
    let value : updated (updated m.value (covered_words m a) (covered_words m b)) (covered_words m b) (covered_words m c) ≡ updated m.value (covered_words m a) (covered_words m c) =
    renewed_then m.value (change (covered_words m a) (covered_words m b)) (change (covered_words m b) (covered_words m c)) ∙ ap (λ (k : ℕ). 65535 - fold (65535 - m.value + k)) (sym o.0) in
    let differs : ((m.differs || differ (covered_words m a) (covered_words m b)) || differ (covered_words m b) (covered_words m c)) ≡ (m.differs || differ (covered_words m a) (covered_words m c)) =
    or_right m.differs (differ (covered_words m a) (covered_words m b)) (differ (covered_words m b) (covered_words m c)) ∙ ap (λ (t : Bool). m.differs || t) (sym o.1) in
    λ j. record m { value = value j; differs = differs j }

pub both_then : (m : Sums) (a b c : List ℕ) → AreEven m → Steps a b c → both_followed (both_followed m a b) b c ≡ both_followed m a c
both_then m a b c e h =
    let x = followed_then m.header a b c e.0 h in
    let y = followed_then m.carried a b c e.1 h in
    λ j. record { header = x j; carried = y j }

-- ---- how far it has come

pub record Going (p n v : ℕ) (s : List ℕ) (m : Sums) (first left : ℕ) (t : List ℕ) (k : Sums) : Type 0 where
  pub bits_are : over_bits first left v (bits_of t) ≡ over_bits p n v (bits_of s)
  pub sums_are : k ≡ both_followed m s t
  pub ahead : (i : ℕ) → 0 < left → i % 2 ≡ 0 → first < 8 * i + 16 → word s i ≡ word t i
  pub end_is : first + left ≡ p + n
  pub long : length t ≡ length s

ends_bits : (first v : ℕ) (b : List ℕ) → b ≡ over_bits first 0 v b
unfolding bits
ends_bits first v b = let e : first + 0 ≡ first = omega arith in rw e (sym (take-append-drop first b))

pub goes_on : (p n v : ℕ) (s : List ℕ) (m : Sums) (first left width : ℕ) (t u : List ℕ) (k q : Sums) → Going p n v s m first left t k → AreEven m →
    (p + n + 15) / 16 * 2 ≤ length s → 0 < left → width ≡ min left (16 - first % 16) → length u ≡ length t →
    bits_of u ≡ over_bits first width (v / 2 ^ (left - width) % 65536) (bits_of t) → q ≡ both_followed k t u → ((i : ℕ) → i % 2 ≡ 0 → i ≢ first / 16 * 2 → word u i ≡ word t i) →
    Going p n v s m (first + width) (left - width) u q
goes_on p n v s m first left width t u k q g even room some w long bs qs kept =
    let most : width ≤ 16 = omega arith in
    let less : width ≤ left = omega arith in
    let end : first + left ≡ p + n = g.end_is in
    let same : length t ≡ length s = g.long in
    let split : width + (left - width) ≡ left = omega arith in
    let inside : first + (width + (left - width)) ≤ length (bits_of t) = omega (arith, length-bits_of t) in
    let low : bits_of u ≡ over_bits first width (v / 2 ^ (left - width)) (bits_of t) = bs ∙ ap (λ (x : List ℕ). take first (bits_of t) ++ (x ++ drop (first + width) (bits_of t))) (bits_lower width 16 (v / 2 ^ (left - width)) most) in
    let steps : Steps s t u = λ i e. elim (cases_eq i (first / 16 * 2)) [
      | inl here ↦ inl (g.ahead i some e (omega arith))
      | inr ne ↦ inr (sym (kept i e ne))
    ] in
    record {
      bits_are = ap (over_bits (first + width) (left - width) v) low ∙ sym (put_parts first width (left - width) v (bits_of t) inside) ∙ ap (λ (x : ℕ). over_bits first x v (bits_of t)) split ∙ g.bits_are;
      sums_are = qs ∙ ap (λ (x : Sums). both_followed x t u) g.sums_are ∙ both_then m s t u even steps;
      ahead = λ i more e before. g.ahead i some e (omega arith) ∙ sym (kept i e (omega arith));
      end_is = omega arith;
      long = long ∙ same;
    }

followed_none : (m : Sum) (s : List ℕ) → m.value ≤ 65535 → m ≡ followed m s s
followed_none m s h =
    let v : m.value ≡ updated m.value (covered_words m s) (covered_words m s) = sym (renewed_same m.value (covered_words m s) h) in
    let d : m.differs ≡ (m.differs || differ (covered_words m s) (covered_words m s)) = sym (ap (λ (t : Bool). m.differs || t) (differ_none (covered_words m s)) ∙ or_false m.differs) in
    λ j. record m { value = v j; differs = d j }

pub starts : (p n v : ℕ) (s : List ℕ) (m : Sums) → m.header.value ≤ 65535 → m.carried.value ≤ 65535 → Going p n v s m p n s m
starts p n v s m f g =
    let x = followed_none m.header s f in
    let y = followed_none m.carried s g in
    record { bits_are = refl; sums_are = λ j. record { header = x j; carried = y j }; ahead = λ i more even before. refl; end_is = refl; long = refl }

-- nothing is left
pub ends : (p n v : ℕ) (s : List ℕ) (m : Sums) (first : ℕ) (t : List ℕ) (k : Sums) → Going p n v s m first 0 t k → (bits_of t ≡ over_bits p n v (bits_of s)) × (k ≡ both_followed m s t)
ends p n v s m first t k g = (ends_bits first v (bits_of t) ∙ g.bits_are, g.sums_are)
