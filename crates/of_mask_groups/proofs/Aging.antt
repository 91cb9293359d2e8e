-- The entries of a slab, oldest first: which they are, and their order.
use Rattle.std.proofs.Common.{◌≡◌, ℕ, zero, suc, ◌+◌, ◌<◌, Bool, true, false, cond, eqb, Option, Some, None, List, [], ◌∷◌, ◌++◌, get_or, refl, sym, ◌∙◌, ap, subst, arith, ⊎_elim}
use Rattle.std.{specs.List.Contains, specs.Prelude.slice_get, proofs.lemmas.Bool.eqb-true, proofs.lemmas.Bool.eq-eqb, proofs.lemmas.Bool.cases_lt}
use Rattle.slab.specs.Slab.{Slab, get}
use Rattle.of_classifier.specs.declared.Row.{Row}
use Rattle.of_mask_groups.proofs.Members.{here, there, not_in_nil, in_cons, in_one, in_append, in_left, in_right}
use Rattle.of_mask_groups.specs.{declared.entry.Entry.Entry, Aged.numbered_row, Aged.at_age, Aged.by_age, Aged.AreAged}

-- ---- one age

pub record IsRow (slots : List (Option Entry)) (k a : ℕ) (r : Row) : Type 0 where
  pub place : ℕ
  pub entry : Entry
  pub stands : get_or slots place None ≡ Some entry
  pub aged : entry.age ≡ a
  pub is : r ≡ numbered_row (k + place) entry

row_later : (slots : List (Option Entry)) (o : Option Entry) (k a : ℕ) (r : Row) → IsRow slots (k + 1) a r → IsRow (o ∷ slots) k a r
row_later slots o k a r h = record {
  place = suc h.place;
  entry = h.entry;
  stands = h.stands;
  aged = h.aged;
  is = (let e : k + 1 + h.place ≡ k + suc h.place = omega arith in h.is ∙ ap (λ n. numbered_row n h.entry) e);
}

at_sound : (a k : ℕ) (slots : List (Option Entry)) (r : Row) → Contains (at_age a k slots) r → IsRow slots k a r
at_sound a k [] r h = absurd (not_in_nil r h)
at_sound a k (None ∷ slots) r h = row_later slots None k a r (at_sound a (k + 1) slots r h)
at_sound a k (Some e ∷ slots) r h = by_test (eqb e.age a) refl h (at_sound a (k + 1) slots r)
  where
    by_test : (b : Bool) → eqb e.age a ≡ b → Contains (cond b (numbered_row k e ∷ []) (at_age a (k + 1) slots)) r → (Contains (at_age a (k + 1) slots) r → IsRow slots (k + 1) a r) → IsRow (Some e ∷ slots) k a r
    by_test true t h later = record { place = 0; entry = e; stands = refl; aged = eqb-true _ _ t; is = (let s : k ≡ k + 0 = omega arith in sym (in_one r (numbered_row k e) h) ∙ ap (λ n. numbered_row n e) s) }
    by_test false t h later = row_later slots (Some e) k a r (later h)

at_complete : (a k : ℕ) (slots : List (Option Entry)) (i : ℕ) (e : Entry) → get_or slots i None ≡ Some e → e.age ≡ a → ((j : ℕ) (d : Entry) → get_or slots j None ≡ Some d → d.age ≡ a → j ≡ i) → Contains (at_age a k slots) (numbered_row (k + i) e)
at_complete a k [] i e h s only = absurd cc
at_complete a k (None ∷ slots) zero e h s only = absurd cc
at_complete a k (None ∷ slots) (suc i) e h s only =
    let n : k + 1 + i ≡ k + suc i = omega arith in
    subst (λ m. Contains (at_age a (k + 1) slots) (numbered_row m e)) n (at_complete a (k + 1) slots i e h s (λ j d g t. omega (arith, only (suc j) d g t)))
at_complete a k (Some d ∷ slots) zero e h s only =
    let same : d ≡ e = cc in
    let n : k ≡ k + 0 = omega arith in
    rw (eq-eqb d.age a (ap (λ (x : Entry). x.age) same ∙ s)) (subst (λ m. Contains (numbered_row k d ∷ []) (numbered_row m e)) n (subst (λ x. Contains (numbered_row k d ∷ []) (numbered_row k x)) same (here (numbered_row k d) [])))
at_complete a k (Some d ∷ slots) (suc i) e h s only = by_test (eqb d.age a) refl (at_complete a (k + 1) slots i e h s (λ j x g u. omega (arith, only (suc j) x g u)))
  where
    by_test : (b : Bool) → eqb d.age a ≡ b → Contains (at_age a (k + 1) slots) (numbered_row (k + 1 + i) e) → Contains (cond b (numbered_row k d ∷ []) (at_age a (k + 1) slots)) (numbered_row (k + suc i) e)
    by_test true t later = absurd (omega (arith, only 0 d refl (eqb-true _ _ t)))
    by_test false t later =
        let n : k + 1 + i ≡ k + suc i = omega arith in
        subst (λ m. Contains (at_age a (k + 1) slots) (numbered_row m e)) n later

-- ---- by age

-- it is an entry's row, under its number
pub record IsRowOf (entries : Slab Entry) (r : Row) : Type 0 where
  pub entry : Entry
  pub stands : get entries r.number ≡ Some entry
  pub is : r ≡ numbered_row r.number entry

row_under : (slots : List (Option Entry)) (a : ℕ) (r : Row) → IsRow slots 0 a r → (e : Entry) × (get_or slots r.number None ≡ Some e) × (e.age ≡ a) × (r ≡ numbered_row r.number e)
row_under slots a r h =
    let n : r.number ≡ h.place = ap (λ (x : Row). x.number) h.is ∙ omega arith in
    (h.entry, subst (λ m. get_or slots m None ≡ Some h.entry) (sym n) h.stands, h.aged, h.is ∙ ap (λ m. numbered_row m h.entry) (let z : 0 + h.place ≡ h.place = omega arith in z ∙ sym n))

by_age_sound : (next : ℕ) (slots : List (Option Entry)) (r : Row) → Contains (by_age next slots) r → (e : Entry) × (get_or slots r.number None ≡ Some e) × (e.age < next) × (r ≡ numbered_row r.number e)
unfolding by_age
by_age_sound zero slots r h = absurd (not_in_nil r h)
by_age_sound (suc a) slots r h = ⊎_elim
    (λ l. let x = by_age_sound a slots r l in (x.0, x.1, omega (arith, x.2), x.3))
    (λ l. let x = row_under slots a r (at_sound a 0 slots r l) in (x.0, x.1, omega (arith, x.2), x.3))
    (in_append r (by_age a slots) (at_age a 0 slots) h)

by_age_complete : (next : ℕ) (slots : List (Option Entry)) (n : ℕ) (e : Entry) → get_or slots n None ≡ Some e → e.age < next → ((j : ℕ) (d : Entry) → get_or slots j None ≡ Some d → d.age ≡ e.age → j ≡ n) → Contains (by_age next slots) (numbered_row n e)
unfolding by_age
by_age_complete zero slots n e h lt only = absurd (omega arith)
by_age_complete (suc a) slots n e h lt only = ⊎_elim
    (λ l. in_left (numbered_row n e) (by_age a slots) (at_age a 0 slots) (by_age_complete a slots n e h l only))
    (λ l.
    let s : e.age ≡ a = omega arith in
    let z : 0 + n ≡ n = omega arith in
    in_right (numbered_row n e) (by_age a slots) (at_age a 0 slots) (subst (λ m. Contains (at_age a 0 slots) (numbered_row m e)) z (at_complete a 0 slots n e h s (λ j d g t. only j d g (t ∙ sym s)))))
    (cases_lt e.age a)

pub sound_row : (entries : Slab Entry) (next : ℕ) (r : Row) → Contains (by_age next entries.slots) r → IsRowOf entries r
sound_row entries next r h = let x = by_age_sound next entries.slots r h in record { entry = x.0; stands = x.1; is = x.3 }

pub complete_row : (entries : Slab Entry) (next : ℕ) (n : ℕ) (e : Entry) → AreAged entries next → get entries n ≡ Some e → Contains (by_age next entries.slots) (numbered_row n e)
complete_row entries next n e aged h = by_age_complete next entries.slots n e h (aged.below n e h) (λ j d g s. aged.apart j n d e g h s)

-- ---- the order

-- the first one is older
abbrev pub IsOlder : Slab Entry → Row → Row → Type 0
IsOlder entries r s = (d e : Entry) → get entries r.number ≡ Some d → get entries s.number ≡ Some e → d.age < e.age

abbrev pub AreInOrder : Slab Entry → List Row → Type 0
AreInOrder entries [] = Unit {0}
AreInOrder entries (r ∷ rs) = ((s : Row) → Contains rs s → IsOlder entries r s) × AreInOrder entries rs

pub order-append : (entries : Slab Entry) (rs ss : List Row) → AreInOrder entries rs → AreInOrder entries ss → ((r s : Row) → Contains rs r → Contains ss s → IsOlder entries r s) → AreInOrder entries (rs ++ ss)
order-append entries [] ss h k c = k
order-append entries (r ∷ rs) ss h k c = (
  λ s m. ⊎_elim (λ l. h.0 s l) (λ l. c r s (here r rs) l) (in_append s rs ss m),
  order-append entries rs ss h.1 k (λ x s l m. c x s (there x r rs l) m),
)

at_order : (entries : Slab Entry) (a k : ℕ) (slots : List (Option Entry)) → AreInOrder entries (at_age a k slots)
at_order entries a k [] = tt
at_order entries a k (None ∷ slots) = at_order entries a (k + 1) slots
at_order entries a k (Some e ∷ slots) = by_test (eqb e.age a) (at_order entries a (k + 1) slots)
  where
    by_test : (b : Bool) → AreInOrder entries (at_age a (k + 1) slots) → AreInOrder entries (cond b (numbered_row k e ∷ []) (at_age a (k + 1) slots))
    by_test true later = (λ s m. absurd (not_in_nil s m), tt)
    by_test false later = later

same_age : (o : Option Entry) (d e : Entry) → o ≡ Some d → o ≡ Some e → d.age ≡ e.age
same_age o d e h k = let s : d ≡ e = cc in ap (λ (x : Entry). x.age) s

pub in_order : (entries : Slab Entry) (next : ℕ) → AreInOrder entries (by_age next entries.slots)
unfolding by_age
in_order entries zero = tt
in_order entries (suc a) = order-append entries (by_age a entries.slots) (at_age a 0 entries.slots) (in_order entries a) (at_order entries a 0 entries.slots)
    (λ r s m l d e g h.
    let x = by_age_sound a entries.slots r m in
    let y = row_under entries.slots a s (at_sound a 0 entries.slots s l) in
    omega (arith, x.2, y.2, same_age _ d x.0 g x.1, same_age _ e y.0 h y.1))

-- ---- lists of the same rows in order are one list

pub same_rows : (entries : Slab Entry) (rs ss : List Row) → AreInOrder entries rs → AreInOrder entries ss → ((r : Row) → Contains rs r → IsRowOf entries r) → ((r : Row) → Contains rs r → Contains ss r) → ((r : Row) → Contains ss r → Contains rs r) → rs ≡ ss
same_rows entries [] [] h k f a b = refl
same_rows entries [] (s ∷ ss) h k f a b = absurd (not_in_nil s (b s (here s ss)))
same_rows entries (r ∷ rs) [] h k f a b = absurd (not_in_nil r (a r (here r rs)))
same_rows entries (r ∷ rs) (s ∷ ss) h k f a b =
    let x = f r (here r rs) in
    let y = f s (b s (here s ss)) in
    let first : s ≡ r = ⊎_elim (λ e. e) (λ l. ⊎_elim (λ e. sym e) (λ m. absurd (omega (arith, k.0 r l y.entry x.entry y.stands x.stands, h.0 s m x.entry y.entry x.stands y.stands))) (in_cons s r rs (b s (here s ss)))) (in_cons r s ss (a r (here r rs))) in
    let rest : rs ≡ ss = same_rows entries rs ss h.1 k.1 (λ t m. f t (there t r rs m))
    (λ t m. ⊎_elim (λ e. absurd (let z = f t (there t r rs m) in omega (arith, h.0 t m z.entry z.entry (subst (λ (q : Row). get entries q.number ≡ Some z.entry) (sym e ∙ first) z.stands) z.stands))) (λ l. l) (in_cons t s ss (a t (there t r rs m))))
    (λ t m. ⊎_elim (λ e. absurd (let z = f t (b t (there t s ss m)) in omega (arith, k.0 t m z.entry z.entry (subst (λ (q : Row). get entries q.number ≡ Some z.entry) (sym e ∙ sym first) z.stands) z.stands))) (λ l. l) (in_cons t r rs (b t (there t s ss m)))) in
    cc

-- ---- by place

pub older_by_place : (entries : Slab Entry) (rs : List Row) (i j : ℕ) (r s : Row) → AreInOrder entries rs → i < j → slice_get rs i ≡ Some r → slice_get rs j ≡ Some s → IsOlder entries r s
older_by_place entries [] i j r s h lt g k = absurd cc
older_by_place entries (x ∷ rs) zero zero r s h lt g k = absurd (omega arith)
older_by_place entries (x ∷ rs) zero (suc j) r s h lt g k = let e : x ≡ r = cc in subst (λ y. IsOlder entries y s) e (h.0 s (in_by_place rs j s k))
  where
    in_by_place : (ys : List Row) (j : ℕ) (s : Row) → slice_get ys j ≡ Some s → Contains ys s
    in_by_place [] j s k = absurd cc
    in_by_place (y ∷ ys) zero s k = let e : y ≡ s = cc in subst (λ z. Contains (y ∷ ys) z) e (here y ys)
    in_by_place (y ∷ ys) (suc j) s k = there s y ys (in_by_place ys j s k)
older_by_place entries (x ∷ rs) (suc i) zero r s h lt g k = absurd (omega arith)
older_by_place entries (x ∷ rs) (suc i) (suc j) r s h lt g k = older_by_place entries rs i j r s h.1 (omega arith) g k
