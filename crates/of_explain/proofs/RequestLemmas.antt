-- The messages of a stream are those into which it splits.
use Rattle.std.proofs.Common.{◌≡◌, ℕ, zero, suc, ◌<◌, ◌≤◌, ◌⊎◌, inl, inr, List, [], ◌∷◌, ◌++◌, length, take, drop, Result, Ok, Err, refl, sym, ◌∙◌, ap, subst, arith, append_assoc, length-append, length-drop, length-take-le, ◌+◌}
use Rattle.std.{specs.Prelude.OnOk, specs.List.flat_map, proofs.lemmas.List.append-nil}
use Rattle.of_session.specs.Stream.{First, Whole, Bad, Partial, beginning_of, beginning_is, IsWholeMessage, IsMalformed, IsPartial, concat, AreMessages, Splits}
use Rattle.of_session.{specs.declared.stream.Beginning.Beginning, proofs.Fronts.message_front, proofs.Fronts.malformed_front, proofs.Fronts.partial_front, proofs.Splitting.splits_some}
use Rattle.of_session.specs.declared.stream.Beginning.TheVariants as front
use Rattle.of_explain.specs.Requests.{and_others, first_messages, messages_in_bytes}

-- ---- what a stream splits into

-- none begins a rest
none_left : (n : ℕ) (rest : List ℕ) → IsMalformed rest ⊎ IsPartial rest → first_messages n rest ≡ []
none_left zero rest h = refl
none_left (suc n) rest (inl bad) = ap (and_others (first_messages n)) (malformed_front rest bad)
none_left (suc n) rest (inr part) = ap (and_others (first_messages n)) (partial_front rest part)

longer : (m rest : List ℕ) → IsWholeMessage m → length rest < length (m ++ rest)
longer m rest is = omega (arith, length-append m rest, is.header)

all_of : (ms : List (List ℕ)) (n : ℕ) (rest : List ℕ) → AreMessages ms → IsMalformed rest ⊎ IsPartial rest → length (concat ms ++ rest) ≤ n → first_messages n (concat ms ++ rest) ≡ ms
all_of [] n rest each ends h = none_left n rest ends
all_of (m ∷ ms) zero rest each ends h =
    let size : length ((m ++ concat ms) ++ rest) ≡ length (m ++ (concat ms ++ rest)) = ap length (append_assoc m (concat ms) rest) in
    absurd (omega (arith, h, size, longer m (concat ms ++ rest) each.0))
all_of (m ∷ ms) (suc n) rest each ends h =
    let others = concat ms ++ rest in
    let same : (m ++ concat ms) ++ rest ≡ m ++ others = append_assoc m (concat ms) rest in
    let size : length ((m ++ concat ms) ++ rest) ≡ length (m ++ others) = ap length same in
    let begins : beginning_of ((m ++ concat ms) ++ rest) ≡ Whole m others = ap beginning_of same ∙ message_front m others each.0 in
    ap (and_others (first_messages n)) begins ∙ ap (λ (x : List (List ℕ)). m ∷ x) (all_of ms n rest each.1 ends (omega (arith, h, size, longer m others each.0)))

all_messages : (n : ℕ) (stream : List ℕ) (ms : List (List ℕ)) (rest : List ℕ) → Splits stream ms rest → length stream ≤ n → first_messages n stream ≡ ms
all_messages n stream ms rest s h = ap (first_messages n) s.whole ∙ all_of ms n rest s.each s.ends (subst (λ (x : List ℕ). length x ≤ n) s.whole h)

pub messages_are : (stream : List ℕ) (ms : List (List ℕ)) (rest : List ℕ) → Splits stream ms rest → messages_in_bytes stream ≡ ms
unfolding messages_in_bytes
messages_are stream ms rest s = all_messages (length stream) stream ms rest s (omega arith)

-- ---- one by one

enough : (n : ℕ) (bytes : List ℕ) → length bytes ≤ n → first_messages n bytes ≡ messages_in_bytes bytes
enough n bytes h = let s = splits_some bytes in all_messages n bytes s.0 s.1 s.2 h ∙ sym (messages_are bytes s.0 s.1 s.2)

first_by : (n : ℕ) (bytes m rest : List ℕ) → beginning_of bytes ≡ Whole m rest → length rest < n → first_messages n bytes ≡ m ∷ messages_in_bytes rest
first_by zero bytes m rest begins less = absurd (omega (arith, less))
first_by (suc n) bytes m rest begins less = ap (and_others (first_messages n)) begins ∙ ap (λ (x : List (List ℕ)). m ∷ x) (enough n rest (omega (arith, less)))

first_message : (bytes m rest : List ℕ) → beginning_of bytes ≡ Whole m rest → length rest < length bytes → messages_in_bytes bytes ≡ m ∷ messages_in_bytes rest
first_message bytes m rest begins less = sym (enough (length bytes) bytes (omega arith)) ∙ first_by (length bytes) bytes m rest begins less

none_by : (n : ℕ) (bytes : List ℕ) (f : First) → beginning_of bytes ≡ f → and_others (first_messages n) f ≡ [] → first_messages (suc n) bytes ≡ []
none_by n bytes f is none = ap (and_others (first_messages n)) is ∙ none

no_message : (n : ℕ) (bytes : List ℕ) (f : First) → beginning_of bytes ≡ f → ((k : ℕ) → and_others (first_messages k) f ≡ []) → first_messages n bytes ≡ []
no_message zero bytes f is none = refl
no_message (suc n) bytes f is none = none_by n bytes f is (none n)

-- ---- what is printed for them

-- one more is printed
pub told_more : (notes : List ℕ → List ℕ) (size : ℕ) (bytes out out' all : List ℕ) → 8 ≤ size → size ≤ length bytes → beginning_of bytes ≡ Whole (take size bytes) (drop size bytes) → out' ≡ out ++ notes (take size bytes)
    → out ++ flat_map notes (messages_in_bytes bytes) ≡ all → out' ++ flat_map notes (messages_in_bytes (drop size bytes)) ≡ all
told_more notes size bytes out out' all low high begins more told =
    let first : messages_in_bytes bytes ≡ take size bytes ∷ messages_in_bytes (drop size bytes) = first_message bytes (take size bytes) (drop size bytes) begins (omega (arith, length-drop size bytes, low, high)) in
    let others = flat_map notes (messages_in_bytes (drop size bytes)) in
    ap (λ (x : List ℕ). x ++ others) more ∙ (append_assoc out (notes (take size bytes)) others ∙ (ap (λ (x : List (List ℕ)). out ++ flat_map notes x) (sym first) ∙ told))

pub fewer_left : (size : ℕ) (bytes : List ℕ) → 8 ≤ size → size ≤ length bytes → length (drop size bytes) < length bytes
fewer_left size bytes low high = omega (arith, length-drop size bytes, low, high)

all_told : (notes : List ℕ → List ℕ) (bytes out all : List ℕ) → messages_in_bytes bytes ≡ [] → out ++ flat_map notes (messages_in_bytes bytes) ≡ all → out ≡ all
all_told notes bytes out all none told = sym (append-nil out) ∙ (ap (λ (x : List (List ℕ)). out ++ flat_map notes x) (sym none) ∙ told)

-- nothing is left to print where the rest waits or is malformed
waits_told : (notes : List ℕ → List ℕ) (bytes out all : List ℕ) → beginning_of bytes ≡ Partial → out ++ flat_map notes (messages_in_bytes bytes) ≡ all → out ≡ all
waits_told notes bytes out all is told = all_told notes bytes out all (sym (enough (length bytes) bytes (omega arith)) ∙ no_message (length bytes) bytes Partial is (λ k. refl)) told

malformed_told : (notes : List ℕ → List ℕ) (bytes out all : List ℕ) → beginning_of bytes ≡ Bad → out ++ flat_map notes (messages_in_bytes bytes) ≡ all → out ≡ all
malformed_told notes bytes out all is told = all_told notes bytes out all (sym (enough (length bytes) bytes (omega arith)) ∙ no_message (length bytes) bytes Bad is (λ k. refl)) told

-- words after words
pub words_behind : {E : Type 0} (result : Result (Unit {0}) E) (out mid out' words more : List ℕ) → mid ≡ out ++ words → OnOk result (out' ≡ mid ++ more) → OnOk result (out' ≡ out ++ (words ++ more))
words_behind (Ok u) out mid out' words more m t = t ∙ (ap (λ (x : List ℕ). x ++ more) m ∙ append_assoc out words more)
words_behind (Err e) out mid out' words more m t = tt

pub done_told : (notes : List ℕ → List ℕ) (f : Beginning) (bytes out all : List ℕ) → (f ≡ front.Malformed) ⊎ (f ≡ front.Waiting) → beginning_of bytes ≡ beginning_is f bytes → out ++ flat_map notes (messages_in_bytes bytes) ≡ all → out ≡ all
done_told notes f bytes out all (inl is) begins told = malformed_told notes bytes out all (rw is at begins) told
done_told notes f bytes out all (inr is) begins told = waits_told notes bytes out all (rw is at begins) told

-- ---- how many bytes they have

size_more : (size : ℕ) (bytes : List ℕ) → 8 ≤ size → size ≤ length bytes → beginning_of bytes ≡ Whole (take size bytes) (drop size bytes) → length (concat (messages_in_bytes bytes)) ≡ size + length (concat (messages_in_bytes (drop size bytes)))
size_more size bytes low high begins =
    let first : messages_in_bytes bytes ≡ take size bytes ∷ messages_in_bytes (drop size bytes) = first_message bytes (take size bytes) (drop size bytes) begins (omega (arith, length-drop size bytes, low, high)) in
    ap (λ (x : List (List ℕ)). length (concat x)) first ∙ (length-append (take size bytes) (concat (messages_in_bytes (drop size bytes))) ∙ ap (λ (x : ℕ). x + length (concat (messages_in_bytes (drop size bytes)))) (length-take-le size bytes high))

-- what is left and what was taken
pub counts_more : (size : ℕ) (bytes all : List ℕ) → 8 ≤ size → size ≤ length bytes → beginning_of bytes ≡ Whole (take size bytes) (drop size bytes)
    → length bytes + length (concat (messages_in_bytes all)) ≡ length all + length (concat (messages_in_bytes bytes))
    → length (drop size bytes) + length (concat (messages_in_bytes all)) ≡ length all + length (concat (messages_in_bytes (drop size bytes)))
counts_more size bytes all low high begins h = omega (arith, length-drop size bytes, size_more size bytes low high begins, low, high, h)

ends_empty : (f : Beginning) (bytes : List ℕ) → (f ≡ front.Malformed) ⊎ (f ≡ front.Waiting) → beginning_of bytes ≡ beginning_is f bytes → messages_in_bytes bytes ≡ []
ends_empty f bytes (inl is) begins = sym (enough (length bytes) bytes (omega arith)) ∙ no_message (length bytes) bytes Bad (rw is at begins) (λ k. refl)
ends_empty f bytes (inr is) begins = sym (enough (length bytes) bytes (omega arith)) ∙ no_message (length bytes) bytes Partial (rw is at begins) (λ k. refl)

-- nothing is left but the rest of the stream
pub rest_is : (notes : List ℕ → List ℕ) (f : Beginning) (bytes all out old : List ℕ) → (f ≡ front.Malformed) ⊎ (f ≡ front.Waiting) → beginning_of bytes ≡ beginning_is f bytes
    → out ++ flat_map notes (messages_in_bytes bytes) ≡ old ++ flat_map notes (messages_in_bytes all)
    → length bytes + length (concat (messages_in_bytes all)) ≡ length all + length (concat (messages_in_bytes bytes))
    → (ms : List (List ℕ)) × (rest : List ℕ) × (Splits all ms rest) × (out ≡ old ++ flat_map notes ms) × (length bytes ≡ length rest)
rest_is notes f bytes all out old is begins told counts =
    let s = splits_some all in
    let empty = ends_empty f bytes is begins in
    let are = messages_are all s.0 s.1 s.2 in
    let told' : out ≡ old ++ flat_map notes (messages_in_bytes all) = done_told notes f bytes out (old ++ flat_map notes (messages_in_bytes all)) is begins told in
    let none : length (concat (messages_in_bytes bytes)) ≡ 0 = ap (λ (x : List (List ℕ)). length (concat x)) empty in
    let size : length (concat (messages_in_bytes all)) ≡ length (concat s.0) = ap (λ (x : List (List ℕ)). length (concat x)) are in
    let whole : length all ≡ length (concat s.0) + length s.1 = ap length s.2.whole ∙ length-append (concat s.0) s.1 in
    (s.0, s.1, s.2, told' ∙ ap (λ (x : List (List ℕ)). old ++ flat_map notes x) are, omega (arith, counts, none, size, whole))
