-- The elements of a HELLO.
use Rattle.std.proofs.Common.{◌≡◌, ◌≤◌, ◌<◌, ◌+◌, ◌*◌, ◌/◌, ℕ, zero, suc, Bool, true, false, cond, List, [], ◌∷◌, length, take, Some, None, refl, sym, ap, ◌∙◌, arith}
use Rattle.std.{specs.Prelude.find, proofs.lemmas.Bool.Decides.nat_tests, proofs.lemmas.List.length-drop}
use Rattle.of_messages.specs.Hellos.{AreElements, behind_element, element_length, elements_among, elements_of, is_bitmap, no_element}

-- an element has some bytes
pub takes_some : (rest : List ℕ) → no_element rest ≡ false → length (behind_element rest) < length rest
takes_some rest h =
    let long : 4 ≤ length rest = grind (arith, nat_tests) in
    let low : 4 ≤ element_length rest = grind (arith, nat_tests) in
    omega (arith, length-drop ((element_length rest + 7) / 8 * 8) rest)

none_left : (n : ℕ) (rest : List ℕ) → length rest ≤ 0 → elements_among n rest ≡ []
none_left zero rest h = refl
none_left (suc n) [] h = refl
none_left (suc n) (b ∷ bs) h = absurd (omega arith)

element : List ℕ → List ℕ
element rest = take (element_length rest) rest

-- enough turns are as good as more
enough : (n m : ℕ) (rest : List ℕ) → length rest ≤ n → length rest ≤ m → elements_among n rest ≡ elements_among m rest
unfolding element
enough zero m rest h k = sym (none_left m rest h)
enough (suc n) zero rest h k = none_left (suc n) rest k
enough (suc n) (suc m) rest h k = by_test (no_element rest) refl (λ e. let less = takes_some rest e in enough n m (behind_element rest) (omega arith) (omega arith))
  where
    by_test : (b : Bool) → no_element rest ≡ b → (no_element rest ≡ false → elements_among n (behind_element rest) ≡ elements_among m (behind_element rest))
        → cond b [] (element rest ∷ elements_among n (behind_element rest)) ≡ cond b [] (element rest ∷ elements_among m (behind_element rest))
    by_test true e again = refl
    by_test false e again = ap (λ (es : List (List ℕ)). element rest ∷ es) (again e)

-- this many turns are enough for all elements
pub all_elements : (n : ℕ) (rest : List ℕ) → length rest ≤ n → AreElements rest (elements_among n rest)
unfolding element
all_elements zero [] h = refl
all_elements zero (b ∷ bs) h = absurd (omega arith)
all_elements (suc n) rest h = by_test (no_element rest) refl (λ e. let less = takes_some rest e in all_elements n (behind_element rest) (omega arith))
  where
    by_test : (b : Bool) → no_element rest ≡ b → (no_element rest ≡ false → AreElements (behind_element rest) (elements_among n (behind_element rest)))
        → AreElements rest (cond b [] (element rest ∷ elements_among n (behind_element rest)))
    by_test true e others = e
    by_test false e others = (e, refl, others e)

pub are_elements : (body : List ℕ) → AreElements body (elements_of body)
unfolding elements_of
are_elements body = all_elements (length body) body (omega arith)

-- the first bitmap of the whole is that of what is left
pub record Left (body rest : List ℕ) : Type 0 where
  pub same : find is_bitmap (elements_of body) ≡ find is_bitmap (elements_among (length rest) rest)

pub at_start : (body : List ℕ) → Left body body
unfolding elements_of
at_start body = record { same = refl }

one_turn : (n : ℕ) (rest : List ℕ) (b : Bool) → no_element rest ≡ b → length rest ≤ n → elements_among n rest ≡ cond b [] (take (element_length rest) rest ∷ elements_among (length (behind_element rest)) (behind_element rest))
one_turn zero [] b e h = ap (λ (t : Bool). cond t [] (take (element_length []) [] ∷ elements_among (length (behind_element [])) (behind_element []))) e
one_turn zero (x ∷ xs) b e h = absurd (omega arith)
one_turn (suc n) rest true e h = rw e refl
one_turn (suc n) rest false e h = let less = takes_some rest e in rw e (ap (λ (es : List (List ℕ)). take (element_length rest) rest ∷ es) (enough n (length (behind_element rest)) (behind_element rest) (omega arith) (omega arith)))

pub no_more : (body rest : List ℕ) → Left body rest → no_element rest ≡ true → find is_bitmap (elements_of body) ≡ None
no_more body rest l e = l.same ∙ ap (find is_bitmap) (one_turn (length rest) rest true e (omega arith))

by_first : (element : List ℕ) (later : List (List ℕ)) (b : Bool) → is_bitmap element ≡ b → find is_bitmap (element ∷ later) ≡ cond b (Some element) (find is_bitmap later)
by_first element later b e = rw e refl

pub goes_on : (body rest element after : List ℕ) → Left body rest → no_element rest ≡ false → element ≡ take (element_length rest) rest → is_bitmap element ≡ false → after ≡ behind_element rest → Left body after
goes_on body rest element after l e is other next =
    let later = elements_among (length (behind_element rest)) (behind_element rest) in
    let turn : elements_among (length rest) rest ≡ element ∷ later = one_turn (length rest) rest false e (omega arith) ∙ ap (λ (x : List ℕ). x ∷ later) (sym is) in
    rw next (record { same = l.same ∙ ap (find is_bitmap) turn ∙ by_first element later false other })
