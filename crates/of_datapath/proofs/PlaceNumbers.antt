-- Numbers and their places.
use Rattle.std.proofs.Common.{◌≡◌, ℕ, zero, suc, ◌<◌, Bool, true, false, eqb, List, [], ◌∷◌, length, get_or, refl, sym, ap, ◌∙◌, arith}
use Rattle.std.specs.{Prelude.not, Prelude.◌||◌, Prelude.◌&&◌, List.list_any, List.position_or_len}
use Rattle.std.proofs.lemmas.Bool.{eqb-true, eq-eqb, ne_eqb}
use Rattle.of_wire.specs.Numbered.{is_used, is_distinct}

abbrev pub itself : ℕ → ℕ
itself n = n

same_zero : (n : ℕ) (ns : List ℕ) → position_or_len (λ m. eqb m n) (n ∷ ns) ≡ 0
same_zero n ns = let same : eqb n n ≡ true = eq-eqb n n refl in rw same refl

one_later : (m n : ℕ) (ns : List ℕ) → eqb m n ≡ false → position_or_len (λ k. eqb k n) (m ∷ ns) ≡ suc (position_or_len (λ k. eqb k n) ns)
one_later m n ns differ = rw differ (omega arith)

-- at the place of a number that occurs is the number
number_by : (m n : ℕ) (ns : List ℕ) (t : Bool) → eqb m n ≡ t → (t || list_any (λ k. eqb k n) ns) ≡ true → (list_any (λ k. eqb k n) ns ≡ true → get_or ns (position_or_len (λ k. eqb k n) ns) 0 ≡ n)
    → get_or (m ∷ ns) (position_or_len (λ k. eqb k n) (m ∷ ns)) 0 ≡ n
number_by m n ns true e there ih =
    let same : m ≡ n = eqb-true m n e in
    rw same (ap (λ (k : ℕ). get_or (n ∷ ns) k 0) (same_zero n ns))
number_by m n ns false e there ih = ap (λ (k : ℕ). get_or (m ∷ ns) k 0) (one_later m n ns e) ∙ ih there

pub number_at_place : (n : ℕ) (ns : List ℕ) → list_any (λ k. eqb k n) ns ≡ true → get_or ns (position_or_len (λ k. eqb k n) ns) 0 ≡ n
number_at_place n [] h = absurd cc
number_at_place n (m ∷ ns) h = number_by m n ns (eqb m n) refl h (number_at_place n ns)

or_parts : (a b : Bool) → (a || b) ≡ false → (a ≡ false) × (b ≡ false)
or_parts true b h = absurd cc
or_parts false b h = (refl, h)

and_parts : (a b : Bool) → (not a && b) ≡ true → (a ≡ false) × (b ≡ true)
and_parts true b h = absurd cc
and_parts false b h = (refl, h)

eqb_swap : (m n : ℕ) → eqb m n ≡ false → eqb n m ≡ false
eqb_swap m n e = ne_eqb n m (λ same. let bad : eqb m n ≡ true = eq-eqb m n (sym same) in let no_way : false ≡ true = sym e ∙ bad in cc)

-- a number that does not occur is at no place
not_there : (n : ℕ) (ns : List ℕ) (k : ℕ) → list_any (λ m. eqb m n) ns ≡ false → k < length ns → eqb n (get_or ns k 0) ≡ false
not_there n [] k h lt = absurd (omega (arith, lt))
not_there n (m ∷ ns) zero h lt = eqb_swap m n (or_parts (eqb m n) (list_any (λ x. eqb x n) ns) h).0
not_there n (m ∷ ns) (suc k) h lt = not_there n ns k (or_parts (eqb m n) (list_any (λ x. eqb x n) ns) h).1 (omega (arith, lt))

-- the place of the number at a place is that place, where no two are one
pub place_of_number : (ns : List ℕ) (k : ℕ) → is_distinct itself ns ≡ true → k < length ns → position_or_len (λ m. eqb m (get_or ns k 0)) ns ≡ k
place_of_number [] k distinct lt = absurd (omega (arith, lt))
place_of_number (n ∷ ns) zero distinct lt = same_zero n ns
place_of_number (n ∷ ns) (suc k) distinct lt =
    let parts = and_parts (is_used itself n ns) (is_distinct itself ns) distinct in
    let differ : eqb n (get_or ns k 0) ≡ false = not_there n ns k parts.0 (omega (arith, lt)) in
    one_later n (get_or ns k 0) ns differ ∙ ap suc (place_of_number ns k parts.1 (omega (arith, lt)))
