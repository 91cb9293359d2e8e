-- A stream is messages and a rest in one way.
use Rattle.std.proofs.Common.{◌≡◌, ℕ, zero, suc, ◌<◌, ◌≤◌, ◌⊎◌, inl, inr, List, [], ◌∷◌, ◌++◌, length, take, drop, refl, sym, ◌∙◌, ap, subst, arith, append_assoc, length-drop}
use Rattle.std.proofs.lemmas.List.{take-append-drop, length-take}
use Rattle.of_session.specs.Stream.{First, Whole, Bad, Partial, beginning_of, length_of, IsWholeMessage, IsMalformed, IsPartial, concat, AreMessages, Splits}
use Rattle.of_session.proofs.Fronts.{Looks, looks, message_front, malformed_front, partial_front, length_of-append}

-- a rest does not begin with a message
no_message : (m x r : List ℕ) → IsWholeMessage m → IsMalformed r ⊎ IsPartial r → r ≡ m ++ x → ⊥
no_message m x r is (inl bad) e = let h : Bad ≡ Whole m x = sym (malformed_front r bad) ∙ (ap beginning_of e ∙ message_front m x is) in cc
no_message m x r is (inr part) e = let h : Partial ≡ Whole m x = sym (partial_front r part) ∙ (ap beginning_of e ∙ message_front m x is) in cc

same : (ms ns : List (List ℕ)) (r s : List ℕ) → AreMessages ms → AreMessages ns → IsMalformed r ⊎ IsPartial r → IsMalformed s ⊎ IsPartial s → concat ms ++ r ≡ concat ns ++ s → (ms ≡ ns) × (r ≡ s)
same [] [] r s a b p q e = (refl, e)
same [] (n ∷ ns) r s a b p q e = absurd (no_message n (concat ns ++ s) r b.0 p (e ∙ append_assoc n (concat ns) s))
same (m ∷ ms) [] r s a b p q e = absurd (no_message m (concat ms ++ r) s a.0 q (sym e ∙ append_assoc m (concat ms) r))
same (m ∷ ms) (n ∷ ns) r s a b p q e =
    let whole : m ++ (concat ms ++ r) ≡ n ++ (concat ns ++ s) = sym (append_assoc m (concat ms) r) ∙ (e ∙ append_assoc n (concat ns) s) in
    let fronts : Whole m (concat ms ++ r) ≡ Whole n (concat ns ++ s) = sym (message_front m (concat ms ++ r) a.0) ∙ (ap beginning_of whole ∙ message_front n (concat ns ++ s) b.0) in
    let head : m ≡ n = cc in
    let tail : concat ms ++ r ≡ concat ns ++ s = cc in
    let others = same ms ns r s a.1 b.1 p q tail in
    (let rest = others.0 in cc, others.1)

pub splits_only : (stream : List ℕ) (ms ns : List (List ℕ)) (r s : List ℕ) → Splits stream ms r → Splits stream ns s → (ms ≡ ns) × (r ≡ s)
splits_only stream ms ns r s a b = same ms ns r s a.each b.each a.ends b.ends (sym a.whole ∙ b.whole)

-- one more message first
prepended : (m stream : List ℕ) (ms : List (List ℕ)) (r : List ℕ) → IsWholeMessage m → Splits stream ms r → Splits (m ++ stream) (m ∷ ms) r
prepended m stream ms r is h = record {
  whole = ap (λ (x : List ℕ). m ++ x) h.whole ∙ sym (append_assoc m (concat ms) r);
  each = (is, h.each);
  ends = h.ends;
}

alone : (stream : List ℕ) → IsMalformed stream ⊎ IsPartial stream → Splits stream [] stream
alone stream h = record { whole = refl; each = tt; ends = h }

-- the first message is one
pub front_message : (stream : List ℕ) → 8 ≤ length_of stream → length_of stream ≤ length stream → IsWholeMessage (take (length_of stream) stream)
front_message stream low high =
    let size : length (take (length_of stream) stream) ≡ length_of stream = omega (arith, length-take (length_of stream) stream, high) in
    let joined : take (length_of stream) stream ++ drop (length_of stream) stream ≡ stream = take-append-drop (length_of stream) stream in
    let same_length : length_of (take (length_of stream) stream) ≡ length_of stream = sym (length_of-append (take (length_of stream) stream) (drop (length_of stream) stream) (omega (arith, size, low))) ∙ ap length_of joined in
    record { header = omega (arith, size, low); whole = same_length ∙ sym size }

abbrev HasSplit : List ℕ → Type 0
HasSplit stream = (messages : List (List ℕ)) × (rest : List ℕ) × Splits stream messages rest

by_front : (stream : List ℕ) (f : First) → Looks stream f → ((rest : List ℕ) → length rest < length stream → HasSplit rest) → HasSplit stream
by_front stream (Whole m rest) look others =
    let less : length rest < length stream = rw look.3 (omega (arith, length-drop (length_of stream) stream, look.0, look.1)) in
    let h = others rest less in
    let is : IsWholeMessage m = rw look.2 (front_message stream look.0 look.1) in
    let joined : m ++ rest ≡ stream = rw (look.2, look.3) (take-append-drop (length_of stream) stream) in
    (m ∷ h.0, h.1, subst (λ (x : List ℕ). Splits x (m ∷ h.0) h.1) joined (prepended m rest h.0 h.1 is h.2))
by_front stream Bad look others = ([], stream, alone stream (inl (record { header = look.0; short = look.1 })))
by_front stream Partial look others = ([], stream, alone stream (inr (record { shorter = look })))

some_by : (n : ℕ) (stream : List ℕ) → length stream ≤ n → HasSplit stream
some_by zero stream h = by_front stream (beginning_of stream) (looks stream) (λ rest less. absurd (omega (arith, less, h)))
some_by (suc n) stream h = by_front stream (beginning_of stream) (looks stream) (λ rest less. some_by n rest (omega (arith, less, h)))

pub splits_some : (stream : List ℕ) → (messages : List (List ℕ)) × (rest : List ℕ) × Splits stream messages rest
splits_some stream = some_by (length stream) stream (omega arith)

are_more : (ms ns : List (List ℕ)) → AreMessages ms → AreMessages ns → AreMessages (ms ++ ns)
are_more [] ns a b = b
are_more (m ∷ ms) ns a b = (a.0, are_more ms ns a.1 b)

concat-append : (ms ns : List (List ℕ)) → concat (ms ++ ns) ≡ concat ms ++ concat ns
concat-append [] ns = refl
concat-append (m ∷ ms) ns = ap (λ (x : List ℕ). m ++ x) (concat-append ms ns) ∙ sym (append_assoc m (concat ms) (concat ns))

pub splits_more : (stream chunk : List ℕ) (ms ns : List (List ℕ)) (r s : List ℕ) → Splits stream ms r → Splits (r ++ chunk) ns s → Splits (stream ++ chunk) (ms ++ ns) s
splits_more stream chunk ms ns r s a b = record {
  whole = ap (λ (x : List ℕ). x ++ chunk) a.whole ∙ (append_assoc (concat ms) r chunk ∙ (ap (λ (x : List ℕ). concat ms ++ x) b.whole ∙ (sym (append_assoc (concat ms) (concat ns) s) ∙ ap (λ (x : List ℕ). x ++ s) (sym (concat-append ms ns)))));
  each = are_more ms ns a.each b.each;
  ends = b.ends;
}
