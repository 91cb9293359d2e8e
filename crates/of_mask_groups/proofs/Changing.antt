-- The rows after an entry comes, goes, or becomes the youngest.
use Rattle.std.proofs.Common.{◌≡◌, ◌≢◌, ℕ, ◌+◌, Bool, true, false, cond, not, eqb, List, [], ◌∷◌, ◌++◌, Option, Some, None, sym, ◌∙◌, ap, subst, arith, ⊎_elim}
use Rattle.std.{specs.List.Contains, specs.List.filter, proofs.lemmas.Bool.cases_eq, proofs.lemmas.Bool.eqb-true, proofs.lemmas.Bool.eq-eqb, proofs.lemmas.Bool.ne_eqb}
use Rattle.slab.specs.Slab.{Slab, get, Updates}
use Rattle.of_wire.specs.Numbered.{without, moved_to_end}
use Rattle.of_classifier.specs.{declared.Row.Row, Rows.row_number}
use Rattle.of_mask_groups.proofs.Members.{here, there, not_in_nil, in_one, in_append, in_left, in_right}
use Rattle.of_mask_groups.proofs.Aging.{sound_row, complete_row, in_order, AreInOrder, order-append, same_rows}
use Rattle.of_mask_groups.{specs.declared.entry.Entry.Entry, specs.Aged.numbered_row, specs.Aged.by_age, specs.Aged.AreAged, proofs.Counting.in_filter, proofs.Counting.of_filter}

pub same_entry : (o : Option Entry) (d e : Entry) → o ≡ Some d → o ≡ Some e → d ≡ e
same_entry o d e h k = cc

none_some : (o : Option Entry) (e : Entry) → o ≡ None → o ≡ Some e → ⊥
none_some o e h k = let f : None ≡ Some e = sym h ∙ k in absurd cc

order_moved : (old new : Slab Entry) (rs : List Row) → AreInOrder old rs → ((r : Row) (d : Entry) → Contains rs r → get new r.number ≡ Some d → get old r.number ≡ Some d) → AreInOrder new rs
order_moved old new [] h m = tt
order_moved old new (r ∷ rs) h m = (λ s c d e g k. h.0 s c d e (m r d (here r rs) g) (m s e (there s r rs c) k), order_moved old new rs h.1 (λ s d c g. m s d (there s r rs c) g))

order-filter : (entries : Slab Entry) (p : Row → Bool) (rs : List Row) → AreInOrder entries rs → AreInOrder entries (filter p rs)
order-filter entries p [] h = tt
order-filter entries p (r ∷ rs) h = by_test (p r) (order-filter entries p rs h.1)
  where
    by_test : (b : Bool) → AreInOrder entries (filter p rs) → AreInOrder entries (cond b (r ∷ filter p rs) (filter p rs))
    by_test true later = (λ s c. h.0 s (of_filter p rs s c).0, later)
    by_test false later = later

-- of one number there is one row at most
order_one : (old new : Slab Entry) (n : ℕ) (d : Entry) (rs : List Row) → get old n ≡ Some d → AreInOrder old rs → ((r : Row) → Contains rs r → r.number ≡ n) → AreInOrder new rs
order_one old new n d [] g h f = tt
order_one old new n d (r ∷ rs) g h f = (
  λ s c x y k l. absurd (let o = h.0 s c d d (subst (λ m. get old m ≡ Some d) (sym (f r (here r rs))) g) (subst (λ m. get old m ≡ Some d) (sym (f s (there s r rs c))) g) in omega (arith, o)),
  order_one old new n d rs g h.1 (λ s c. f s (there s r rs c)),
)

-- ---- one more

pub aged_more : (old new : Slab Entry) (next n : ℕ) (e : Entry) → AreAged old next → Updates old new n (Some e) → e.age ≡ next → AreAged new (next + 1)
aged_more old new next n e h u a = record {
  below = λ m d g. ⊎_elim (λ s. (let t : d.age ≡ e.age = ap (λ (z : Entry). z.age) (same_entry (get new n) d e (subst (λ k. get new k ≡ Some d) s g) u.changed) in omega arith)) (λ ne. (let b = h.below m d (sym (u.others m ne) ∙ g) in omega arith)) (cases_eq m n);
  apart = λ l m c d g k s. ⊎_elim
      (λ x. ⊎_elim (λ y. x ∙ sym y)
      (λ ny. absurd (let t : c.age ≡ e.age = ap (λ (z : Entry). z.age) (same_entry (get new n) c e (subst (λ i. get new i ≡ Some c) x g) u.changed) in let b = h.below m d (sym (u.others m ny) ∙ k) in omega arith)) (cases_eq m n))
      (λ nx. ⊎_elim
      (λ y. absurd (let t : d.age ≡ e.age = ap (λ (z : Entry). z.age) (same_entry (get new n) d e (subst (λ i. get new i ≡ Some d) y k) u.changed) in let b = h.below l c (sym (u.others l nx) ∙ g) in omega arith))
      (λ ny. h.apart l m c d (sym (u.others l nx) ∙ g) (sym (u.others m ny) ∙ k) s) (cases_eq m n))
      (cases_eq l n);
}

pub aged_less : (old new : Slab Entry) (next n : ℕ) → AreAged old next → Updates old new n None → AreAged new next
aged_less old new next n h u =
    let was : (m : ℕ) (d : Entry) → get new m ≡ Some d → get old m ≡ Some d = λ m d g. ⊎_elim (λ s. absurd (none_some (get new n) d u.changed (subst (λ k. get new k ≡ Some d) s g))) (λ ne. sym (u.others m ne) ∙ g) (cases_eq m n) in
    record { below = λ m d g. h.below m d (was m d g); apart = λ l m c d g k s. h.apart l m c d (was l c g) (was m d k) s }

-- an entry comes
pub rows_more : (old new : Slab Entry) (next n : ℕ) (e : Entry) → AreAged old next → get old n ≡ None → Updates old new n (Some e) → e.age ≡ next → by_age (next + 1) new.slots ≡ by_age next old.slots ++ numbered_row n e ∷ []
rows_more old new next n e h vacant u a =
    let fresh = aged_more old new next n e h u a in
    let olds = by_age next old.slots in
    let differs : (r : Row) → Contains olds r → r.number ≢ n = λ r c s. (let x = sound_row old next r c in none_some (get old n) x.entry vacant (subst (λ k. get old k ≡ Some x.entry) s x.stands)) in
    same_rows new (by_age (next + 1) new.slots) (olds ++ numbered_row n e ∷ []) (in_order new (next + 1))
    (order-append new olds (numbered_row n e ∷ [])
    (order_moved old new olds (in_order old next) (λ r d c g. sym (u.others r.number (differs r c)) ∙ g))
    (λ s c. absurd (not_in_nil s c), tt)
    (λ r s c l x y g k. (
    let b = h.below r.number x (sym (u.others r.number (differs r c)) ∙ g) in
    let q : s ≡ numbered_row n e = sym (in_one s (numbered_row n e) l) in
    let t : y.age ≡ e.age = ap (λ (z : Entry). z.age) (same_entry (get new n) y e (subst (λ (z : Row). get new z.number ≡ Some y) q k) u.changed) in
    omega arith)))
    (λ r c. sound_row new (next + 1) r c)
    (λ r c.
    let x = sound_row new (next + 1) r c in
    ⊎_elim
    (λ s.
    let t : x.entry ≡ e = same_entry (get new n) x.entry e (subst (λ k. get new k ≡ Some x.entry) s x.stands) u.changed in
    let q : numbered_row n e ≡ r = ap (λ z. numbered_row n z) (sym t) ∙ ap (λ k. numbered_row k x.entry) (sym s) ∙ sym x.is in
    in_right r olds (numbered_row n e ∷ []) (subst (λ z. Contains (numbered_row n e ∷ []) z) q (here (numbered_row n e) [])))
    (λ ne. in_left r olds (numbered_row n e ∷ []) (subst (λ z. Contains olds z) (sym x.is) (complete_row old next r.number x.entry h (sym (u.others r.number ne) ∙ x.stands))))
    (cases_eq r.number n))
    (λ r c. ⊎_elim
    (λ l. (let x = sound_row old next r l in subst (λ z. Contains (by_age (next + 1) new.slots) z) (sym x.is) (complete_row new (next + 1) r.number x.entry fresh (u.others r.number (differs r l) ∙ x.stands))))
    (λ l. subst (λ z. Contains (by_age (next + 1) new.slots) z) (in_one r (numbered_row n e) l) (complete_row new (next + 1) n e fresh u.changed))
    (in_append r olds (numbered_row n e ∷ []) c))

is_kept : (r : Row) (n : ℕ) → r.number ≢ n → not (eqb r.number n) ≡ true
is_kept r n ne = ap not (ne_eqb r.number n ne)

kept_is : (r : Row) (n : ℕ) → not (eqb r.number n) ≡ true → r.number ≡ n → ⊥
kept_is r n h s = let f : false ≡ true = sym (ap not (eq-eqb r.number n s)) ∙ h in absurd cc

-- an entry goes
pub rows_less : (old new : Slab Entry) (next n : ℕ) → AreAged old next → Updates old new n None → by_age next new.slots ≡ without row_number n (by_age next old.slots)
rows_less old new next n h u =
    let fresh = aged_less old new next n h u in
    let olds = by_age next old.slots in
    let p : Row → Bool = λ r. not (eqb r.number n) in
    let was : (m : ℕ) (d : Entry) → get new m ≡ Some d → m ≢ n = λ m d g s. none_some (get new n) d u.changed (subst (λ k. get new k ≡ Some d) s g) in
    same_rows new (by_age next new.slots) (filter p olds) (in_order new next)
    (order_moved old new (filter p olds) (order-filter old p olds (in_order old next)) (λ r d c g. sym (u.others r.number (was r.number d g)) ∙ g))
    (λ r c. sound_row new next r c)
    (λ r c. (let x = sound_row new next r c in let ne = was r.number x.entry x.stands in in_filter p olds r (subst (λ z. Contains olds z) (sym x.is) (complete_row old next r.number x.entry h (sym (u.others r.number ne) ∙ x.stands))) (is_kept r n ne)))
    (λ r c. (let o = of_filter p olds r c in let x = sound_row old next r o.0 in subst (λ z. Contains (by_age next new.slots) z) (sym x.is) (complete_row new next r.number x.entry fresh (u.others r.number (λ s. kept_is r n o.1 s) ∙ x.stands))))

-- an entry becomes the youngest
pub rows_renewed : (old new : Slab Entry) (next n : ℕ) (d e : Entry) → AreAged old next → get old n ≡ Some d → Updates old new n (Some e) → e.age ≡ next → numbered_row n e ≡ numbered_row n d → by_age (next + 1) new.slots ≡ moved_to_end row_number n (by_age next old.slots)
rows_renewed old new next n d e h stood u a same =
    let fresh = aged_more old new next n e h u a in
    let olds = by_age next old.slots in
    let p : Row → Bool = λ r. not (eqb r.number n) in
    let q : Row → Bool = λ r. eqb r.number n in
    let is_it : (r : Row) → Contains (filter q olds) r → r.number ≡ n = λ r c. eqb-true r.number n (of_filter q olds r c).1 in
    let differs : (r : Row) → Contains (filter p olds) r → r.number ≢ n = λ r c s. kept_is r n (of_filter p olds r c).1 s in
    same_rows new (by_age (next + 1) new.slots) (filter p olds ++ filter q olds) (in_order new (next + 1))
    (order-append new (filter p olds) (filter q olds)
    (order_moved old new (filter p olds) (order-filter old p olds (in_order old next)) (λ r x c g. sym (u.others r.number (differs r c)) ∙ g))
    (order_one old new n d (filter q olds) stood (order-filter old q olds (in_order old next)) is_it)
    (λ r s c l x y g k. (
    let b = h.below r.number x (sym (u.others r.number (differs r c)) ∙ g) in
    let t : y.age ≡ e.age = ap (λ (z : Entry). z.age) (same_entry (get new n) y e (subst (λ m. get new m ≡ Some y) (is_it s l) k) u.changed) in
    omega arith)))
    (λ r c. sound_row new (next + 1) r c)
    (λ r c.
    let x = sound_row new (next + 1) r c in
    ⊎_elim
    (λ s.
    let t : x.entry ≡ e = same_entry (get new n) x.entry e (subst (λ k. get new k ≡ Some x.entry) s x.stands) u.changed in
    let z : numbered_row n d ≡ r = sym same ∙ ap (λ w. numbered_row n w) (sym t) ∙ ap (λ k. numbered_row k x.entry) (sym s) ∙ sym x.is in
    in_right r (filter p olds) (filter q olds) (in_filter q olds r (subst (λ w. Contains olds w) z (complete_row old next n d h stood)) (eq-eqb r.number n s)))
    (λ ne. in_left r (filter p olds) (filter q olds) (in_filter p olds r (subst (λ w. Contains olds w) (sym x.is) (complete_row old next r.number x.entry h (sym (u.others r.number ne) ∙ x.stands))) (is_kept r n ne)))
    (cases_eq r.number n))
    (λ r c. ⊎_elim
    (λ l. (let o = of_filter p olds r l in let x = sound_row old next r o.0 in subst (λ w. Contains (by_age (next + 1) new.slots) w) (sym x.is) (complete_row new (next + 1) r.number x.entry fresh (u.others r.number (differs r l) ∙ x.stands))))
    (λ l.
    let o = of_filter q olds r l in
    let x = sound_row old next r o.0 in
    let s = is_it r l in
    let t : x.entry ≡ d = same_entry (get old n) x.entry d (subst (λ k. get old k ≡ Some x.entry) s x.stands) stood in
    let z : numbered_row n e ≡ r = same ∙ ap (λ w. numbered_row n w) (sym t) ∙ ap (λ k. numbered_row k x.entry) (sym s) ∙ sym x.is in
    subst (λ w. Contains (by_age (next + 1) new.slots) w) z (complete_row new (next + 1) n e fresh u.changed))
    (in_append r (filter p olds) (filter q olds) c))
