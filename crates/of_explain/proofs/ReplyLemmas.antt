-- The rows of a reply, one by one.
use Rattle.std.proofs.Common.{◌≡◌, ℕ, zero, suc, ◌≤◌, ◌<◌, Bool, true, false, List, [], ◌∷◌, ◌++◌, length, take, drop, refl, sym, ◌∙◌, ap, arith, append_assoc, length-drop}
use Rattle.std.specs.Prelude.{nat_le, Option, Some, None, if◌then◌else◌}
use Rattle.std.{specs.List.flat_map, proofs.lemmas.List.append-nil, proofs.lemmas.Bool.Decides.nat_tests}
use Rattle.of_explain.specs.Replies.{within, front_row, length_by, and_rows, first_rows, rows_of_reply, reply_row}
use Rattle.of_explain.specs.Fields.{big_number_at}

true_le : (a b : ℕ) → nat_le a b ≡ true → a ≤ b
true_le a b h = grind (arith, nat_tests)

both_hold : (a b : Bool) (s size : ℕ) → (if a then (if b then Some s else None) else None) ≡ Some size → (a ≡ true) × (b ≡ true) × (s ≡ size)
both_hold true true s size is = (refl, refl, let f : ◌≡◌ {A = Option ℕ} (Some s) (Some size) = is in cc)
both_hold true false s size is = absurd (let f : ◌≡◌ {A = Option ℕ} None (Some size) = is in cc)
both_hold false b s size is = absurd (let f : ◌≡◌ {A = Option ℕ} None (Some size) = is in cc)

-- a row has some bytes, and ends before the message does
within_is : (most : ℕ) (o : Option ℕ) (size : ℕ) → within most o ≡ Some size → (1 ≤ size) × (size ≤ most)
within_is most None size is = absurd (let f : ◌≡◌ {A = Option ℕ} None (Some size) = is in cc)
within_is most (Some s) size is =
    let h = both_hold (nat_le 1 s) (nat_le s most) s size is in
    (omega (arith, true_le 1 s h.0, h.2), omega (arith, true_le s most h.1, h.2))

row_within : (type : ℕ) (body : List ℕ) (size : ℕ) → front_row type body ≡ Some size → (1 ≤ size) × (size ≤ length body)
unfolding front_row
row_within type body size is = within_is (length body) (length_by type (big_number_at 0 2 body)) size is

-- how many are asked for at most does not matter, if it is enough
none_of : (type m : ℕ) (body : List ℕ) (o : Option ℕ) → front_row type body ≡ o → length body ≤ 0 → [] ≡ and_rows (first_rows m type) body o
none_of type m body None is h = refl
none_of type m body (Some size) is h = let w = row_within type body size is in absurd (omega (arith, w.0, w.1, h))

more_of : (n m type : ℕ) (body : List ℕ) (o : Option ℕ) → ((rest : List ℕ) → length rest ≤ n → length rest ≤ m → first_rows n type rest ≡ first_rows m type rest)
    → front_row type body ≡ o → length body ≤ suc n → length body ≤ suc m → and_rows (first_rows n type) body o ≡ and_rows (first_rows m type) body o
more_of n m type body None same is h k = refl
more_of n m type body (Some size) same is h k =
    let w = row_within type body size is in
    ap (λ (x : List (List ℕ)). take size body ∷ x) (same (drop size body) (omega (arith, length-drop size body, w.0, w.1, h)) (omega (arith, length-drop size body, w.0, w.1, k)))

enough : (n m type : ℕ) (body : List ℕ) → length body ≤ n → length body ≤ m → first_rows n type body ≡ first_rows m type body
enough zero zero type body h k = refl
enough zero (suc m) type body h k = none_of type m body (front_row type body) refl h
enough (suc n) zero type body h k = sym (none_of type n body (front_row type body) refl k)
enough (suc n) (suc m) type body h k = more_of n m type body (front_row type body) (enough n m type) refl h k

first_by : (n type : ℕ) (body : List ℕ) (size : ℕ) → front_row type body ≡ Some size → length body ≤ n → 1 ≤ size → size ≤ length body → first_rows n type body ≡ take size body ∷ rows_of_reply type (drop size body)
unfolding rows_of_reply
first_by zero type body size is h low high = absurd (omega (arith, h, low, high))
first_by (suc n) type body size is h low high =
    let rest = drop size body in
    ap (and_rows (first_rows n type) body) is ∙ ap (λ (x : List (List ℕ)). take size body ∷ x) (enough n (length rest) type rest (omega (arith, length-drop size body, low, high, h)) (omega arith))

first_row : (type : ℕ) (body : List ℕ) (size : ℕ) → front_row type body ≡ Some size → 1 ≤ size → size ≤ length body → rows_of_reply type body ≡ take size body ∷ rows_of_reply type (drop size body)
unfolding rows_of_reply
first_row type body size is low high = first_by (length body) type body size is (omega arith) low high

none_by : (n type : ℕ) (body : List ℕ) → front_row type body ≡ None → first_rows n type body ≡ []
none_by zero type body is = refl
none_by (suc n) type body is = ap (and_rows (first_rows n type) body) is

no_row : (type : ℕ) (body : List ℕ) → front_row type body ≡ None → rows_of_reply type body ≡ []
unfolding rows_of_reply
no_row type body is = none_by (length body) type body is

-- one more is printed
pub printed_more : (type size : ℕ) (body out out' all : List ℕ) → front_row type body ≡ Some size → 1 ≤ size → size ≤ length body → out' ≡ out ++ reply_row type (take size body)
    → out ++ flat_map (reply_row type) (rows_of_reply type body) ≡ all → out' ++ flat_map (reply_row type) (rows_of_reply type (drop size body)) ≡ all
printed_more type size body out out' all is low high more told =
    let others = flat_map (reply_row type) (rows_of_reply type (drop size body)) in
    ap (λ (x : List ℕ). x ++ others) more ∙ (append_assoc out (reply_row type (take size body)) others ∙ (ap (λ (x : List (List ℕ)). out ++ flat_map (reply_row type) x) (sym (first_row type body size is low high)) ∙ told))

pub fewer_bytes : (size : ℕ) (body : List ℕ) → 1 ≤ size → size ≤ length body → length (drop size body) < length body
fewer_bytes size body low high = omega (arith, length-drop size body, low, high)

-- all are printed
pub printed_all : (type : ℕ) (body out all : List ℕ) → front_row type body ≡ None → out ++ flat_map (reply_row type) (rows_of_reply type body) ≡ all → out ≡ all
printed_all type body out all is told = sym (append-nil out) ∙ (ap (λ (x : List (List ℕ)). out ++ flat_map (reply_row type) x) (sym (no_row type body is)) ∙ told)
