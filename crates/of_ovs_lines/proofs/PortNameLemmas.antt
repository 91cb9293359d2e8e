-- Words of a text with the bytes that end them, one after the other.
use Rattle.std.proofs.Common.{◌≡◌, ℕ, ◌<◌, Bool, true, false, cond, List, [], ◌∷◌, ◌++◌, length, refl, sym, ap, ◌∙◌, append_assoc, arith}
use Rattle.std.proofs.lemmas.List.{append-nil}
use Rattle.of_lines.specs.Lines.{before, behind, lines_of}
use Rattle.of_text.proofs.TextLemmas.{first_line}
use Rattle.of_ovs_lines.specs.PortNames.{after_token, before_token, comes_before_port, end_in, ends_token, lists_port, listed_number, number_or, numbered_token, quoted_after, token_in, tokens, with_port_numbers}

-- the first word, and those after it
token_from : (quoted : Bool) (text : List ℕ) → 0 < length text → tokens quoted text ≡ (token_in quoted text, end_in quoted text) ∷ tokens false (after_token quoted text)
unfolding tokens
token_from quoted [] h = absurd (omega arith)
token_from quoted (b ∷ []) h = by_test (ends_token quoted b) refl
  where
    by_test : (t : Bool) → ends_token quoted b ≡ t → cond (ends_token quoted b) (([], b ∷ []) ∷ []) ((b ∷ [], []) ∷ []) ≡ (cond (ends_token quoted b) [] (b ∷ []), cond (ends_token quoted b) (b ∷ []) []) ∷ tokens false (cond (ends_token quoted b) [] [])
    by_test true e = rw e refl
    by_test false e = rw e refl
token_from quoted (b ∷ c ∷ bs) h = by_test (token_from (quoted_after quoted b) (c ∷ bs) (omega arith)) (ends_token quoted b) refl
  where
    by_test : tokens (quoted_after quoted b) (c ∷ bs) ≡ (token_in (quoted_after quoted b) (c ∷ bs), end_in (quoted_after quoted b) (c ∷ bs)) ∷ tokens false (after_token (quoted_after quoted b) (c ∷ bs)) → (t : Bool) → ends_token quoted b ≡ t → cond (ends_token quoted b) (([], b ∷ []) ∷ tokens false (c ∷ bs)) (before_token b (tokens (quoted_after quoted b) (c ∷ bs))) ≡ (cond (ends_token quoted b) [] (b ∷ token_in (quoted_after quoted b) (c ∷ bs)), cond (ends_token quoted b) (b ∷ []) (end_in (quoted_after quoted b) (c ∷ bs))) ∷ tokens false (cond (ends_token quoted b) (c ∷ bs) (after_token (quoted_after quoted b) (c ∷ bs)))
    by_test others true e = rw e refl
    by_test others false e = rw e (ap (before_token b) others)

first_token : (text : List ℕ) → 0 < length text → tokens false text ≡ (token_in false text, end_in false text) ∷ tokens false (after_token false text)
first_token text h = token_from false text h

pub numbers_at_end : (list : List (List ℕ)) (here : Bool) (out new text : List ℕ) → text ≡ [] → out ++ with_port_numbers list here (tokens false text) ≡ new → out ≡ new
unfolding with_port_numbers tokens
numbers_at_end list here out new text e i = sym (append-nil out) ∙ (sym (ap (λ (x : List ℕ). out ++ with_port_numbers list here (tokens false x)) e) ∙ i)

pub numbers_step : (list : List (List ℕ)) (here next : Bool) (old new all text word end after : List ℕ) → 0 < length text → word ≡ token_in false text → end ≡ end_in false text → after ≡ after_token false text → new ≡ old ++ numbered_token list here word ++ end → next ≡ comes_before_port word end → old ++ with_port_numbers list here (tokens false text) ≡ all → new ++ with_port_numbers list next (tokens false after) ≡ all
unfolding with_port_numbers
numbers_step list here next old new all text word end after h w e a n k i =
    let rest = with_port_numbers list (comes_before_port word end) (tokens false after) in
    let numbered = numbered_token list here word in
    let first : tokens false text ≡ (word, end) ∷ tokens false after = rw (w, e, a) (first_token text h) in
    rw (n, k) (append_assoc (old ++ numbered) end rest ∙ (append_assoc old numbered (end ++ rest) ∙ (sym (ap (λ (x : List ℕ). old ++ x) (append_assoc numbered end rest)) ∙ (sym (ap (λ (x : List (List ℕ × List ℕ)). old ++ with_port_numbers list here x) first) ∙ i))))

-- ---- the number of the first port of a name

number_next : (word name rest : List ℕ) → 0 < length rest → number_or word name (lines_of rest) ≡ cond (lists_port name (before 10 rest)) (listed_number (before 10 rest)) (number_or word name (lines_of (behind 10 rest)))
number_next word name rest h = ap (number_or word name) (first_line rest h)

pub number_at_end : (word name rest : List ℕ) → rest ≡ [] → number_or word name (lines_of rest) ≡ word
unfolding lines_of
number_at_end word name rest e = rw e refl

pub number_found : (word name rest line : List ℕ) → 0 < length rest → line ≡ before 10 rest → lists_port name line ≡ true → number_or word name (lines_of rest) ≡ listed_number line
number_found word name rest line h l e =
    let so : lists_port name (before 10 rest) ≡ true = ap (lists_port name) (sym l) ∙ e in
    number_next word name rest h ∙ rw (so, l) refl

pub number_later : (word name rest line after : List ℕ) → 0 < length rest → line ≡ before 10 rest → after ≡ behind 10 rest → lists_port name line ≡ false → number_or word name (lines_of rest) ≡ number_or word name (lines_of after)
number_later word name rest line after h l a e =
    let so : lists_port name (before 10 rest) ≡ false = ap (lists_port name) (sym l) ∙ e in
    number_next word name rest h ∙ rw (so, a) refl
