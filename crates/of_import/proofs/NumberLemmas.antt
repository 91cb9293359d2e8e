-- New numbers of tables, one after the other.
use Rattle.std.proofs.Common.{◌≡◌, ℕ, suc, ◌+◌, ◌-◌, ◌<◌, List, [], ◌∷◌, ◌++◌, refl, ap, sym, ◌∙◌, append_assoc, arith}
use Rattle.std.proofs.lemmas.List.{append-nil}
use Rattle.of_import.specs.TableNumbers.{TableNumbers, count_from, following_number, move_of, moves_from, table_numbers_from, table_numbers_of}
use Rattle.of_import.specs.ParsedLines.{FlowAt}

abbrev of_parts : List ℕ → List (ℕ × ℕ) → ℕ → TableNumbers
of_parts ns ms n = record { numbers = ns; moves = ms; count = n }

one_less : (t : ℕ) → t < 256 → 256 - t ≡ suc (256 - (t + 1))
one_less t h = omega (arith, h)

pub numbers_more : (fs : List FlowAt) (t n next : ℕ) (old new all : List ℕ) → t < 256 → new ≡ old ++ n ∷ [] → next ≡ following_number fs t n → old ++ table_numbers_from fs (256 - t) t n ≡ all → new ++ table_numbers_from fs (256 - (t + 1)) (t + 1) next ≡ all
unfolding table_numbers_from
numbers_more fs t n next old new all h e k i =
    let more : table_numbers_from fs (256 - t) t n ≡ n ∷ table_numbers_from fs (256 - (t + 1)) (t + 1) (following_number fs t n) = ap (λ (m : ℕ). table_numbers_from fs m t n) (one_less t h) in
    rw (e, k) (append_assoc old (n ∷ []) (table_numbers_from fs (256 - (t + 1)) (t + 1) (following_number fs t n)) ∙ (ap (λ (xs : List ℕ). old ++ xs) (sym more) ∙ i))

pub moves_more : (fs : List FlowAt) (t n next : ℕ) (old new all : List (ℕ × ℕ)) → t < 256 → new ≡ old ++ move_of fs t n → next ≡ following_number fs t n → old ++ moves_from fs (256 - t) t n ≡ all → new ++ moves_from fs (256 - (t + 1)) (t + 1) next ≡ all
unfolding moves_from
moves_more fs t n next old new all h e k i =
    let more : moves_from fs (256 - t) t n ≡ move_of fs t n ++ moves_from fs (256 - (t + 1)) (t + 1) (following_number fs t n) = ap (λ (m : ℕ). moves_from fs m t n) (one_less t h) in
    rw (e, k) (append_assoc old (move_of fs t n) (moves_from fs (256 - (t + 1)) (t + 1) (following_number fs t n)) ∙ (ap (λ (xs : List (ℕ × ℕ)). old ++ xs) (sym more) ∙ i))

pub count_more : (fs : List FlowAt) (t n next all : ℕ) → t < 256 → next ≡ following_number fs t n → count_from fs (256 - t) t n ≡ all → count_from fs (256 - (t + 1)) (t + 1) next ≡ all
unfolding count_from
count_more fs t n next all h k i =
    let more : count_from fs (256 - t) t n ≡ count_from fs (256 - (t + 1)) (t + 1) (following_number fs t n) = ap (λ (m : ℕ). count_from fs m t n) (one_less t h) in
    rw k (sym more ∙ i)

-- ---- the first and the last table

pub numbers_start : (fs : List FlowAt) (made : List ℕ) (n : ℕ) → made ≡ [] → n ≡ 0 → made ++ table_numbers_from fs 256 0 n ≡ table_numbers_from fs 256 0 0
numbers_start fs made n e k = rw (e, k) refl

pub moves_start : (fs : List FlowAt) (made : List (ℕ × ℕ)) (n : ℕ) → made ≡ [] → n ≡ 0 → made ++ moves_from fs 256 0 n ≡ moves_from fs 256 0 0
moves_start fs made n e k = rw (e, k) refl

pub count_start : (fs : List FlowAt) (n : ℕ) → n ≡ 0 → count_from fs 256 0 n ≡ count_from fs 256 0 0
count_start fs n k = rw k refl

numbers_end : (fs : List FlowAt) (t n m : ℕ) (old all : List ℕ) → m ≡ 0 → old ++ table_numbers_from fs m t n ≡ all → old ≡ all
unfolding table_numbers_from
numbers_end fs t n m old all e h = sym (append-nil old) ∙ (ap (λ (k : ℕ). old ++ table_numbers_from fs k t n) (sym e) ∙ h)

moves_end : (fs : List FlowAt) (t n m : ℕ) (old all : List (ℕ × ℕ)) → m ≡ 0 → old ++ moves_from fs m t n ≡ all → old ≡ all
unfolding moves_from
moves_end fs t n m old all e h = sym (append-nil old) ∙ (ap (λ (k : ℕ). old ++ moves_from fs k t n) (sym e) ∙ h)

count_end : (fs : List FlowAt) (t n m all : ℕ) → m ≡ 0 → count_from fs m t n ≡ all → n ≡ all
unfolding count_from
count_end fs t n m all e h = ap (λ (k : ℕ). count_from fs k t n) (sym e) ∙ h

pub numbers_made : (fs : List FlowAt) (t m n : ℕ) (ns : List ℕ) (ms : List (ℕ × ℕ)) → m ≡ 0 → ns ++ table_numbers_from fs m t n ≡ table_numbers_from fs 256 0 0 → ms ++ moves_from fs m t n ≡ moves_from fs 256 0 0 → count_from fs m t n ≡ count_from fs 256 0 0 → of_parts ns ms n ≡ table_numbers_of fs
unfolding table_numbers_of
numbers_made fs t m n ns ms e a b k = fields _ _ _ _ _ _ (numbers_end fs t n m ns _ e a) (moves_end fs t n m ms _ e b) (count_end fs t n m _ e k)
  where
    fields : (x y : List ℕ) (u v : List (ℕ × ℕ)) (i j : ℕ) → x ≡ y → u ≡ v → i ≡ j → of_parts x u i ≡ of_parts y v j
    fields x y u v i j p q r = rw (p, q, r) refl
