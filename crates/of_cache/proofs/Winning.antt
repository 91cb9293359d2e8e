-- The winner where an entry is added, removed or renewed.
use Rattle.std.proofs.Common.{◌≡◌, ℕ, ◌≤◌, ◌<◌, Bool, true, false, cond, eqb, not, List, [], ◌∷◌, ◌++◌, Option, Some, None, refl, sym, ◌∙◌, ap, subst, arith, suc, ⊎_elim, append-nil, append_assoc}
use Rattle.std.proofs.lemmas.List.Elements.{filter-append, All-contains, All-contains_itself, All-filter, filter_passes}
use Rattle.std.{specs.Prelude.filter, specs.Prelude.nat_le, specs.Prelude.slice_get, specs.Prelude.⊤, specs.List.Contains, proofs.lemmas.Bool.eqb-true, proofs.lemmas.Bool.Decides.nat_tests}
use Rattle.lru.proofs.Splits.{Contains-head, Contains-tail, Contains-cons, Contains-nil}
use Rattle.of_layers.specs.declared.field.Field.{Field}
use Rattle.of_wire.{specs.Highest.oldest_highest, specs.Numbered.without, specs.Numbered.only, specs.Numbered.moved_to_end, proofs.HighestLemmas.better, proofs.HighestLemmas.oldest_more}
use Rattle.of_classifier.specs.{declared.Row.Row, Rows.row_number, Rows.row_priority, Winner.is_matching, Winner.matching, Winner.winner_of, Winner.winner_number}
use Rattle.of_classifier.proofs.WinnerLaw.{wins_both, none_both}

-- ---- one more entry

with_last : (ms : List Row) (r : Row) (b : Bool) → oldest_highest row_priority (ms ++ cond b (r ∷ []) []) ≡ cond b (better row_priority (oldest_highest row_priority ms) r) (oldest_highest row_priority ms)
with_last ms r true = oldest_more row_priority ms r
with_last ms r false = ap (oldest_highest row_priority) (append-nil ms)

pub winner-push : (rows : List Row) (key : Field → Option ℕ) (r : Row) → winner_of (rows ++ r ∷ []) key ≡ cond (is_matching key r) (better row_priority (winner_of rows key) r) (winner_of rows key)
winner-push rows key r = ap (oldest_highest row_priority) (filter-append (is_matching key) rows (r ∷ [])) ∙ with_last (matching rows key) r (is_matching key r)

-- ---- without an entry

-- no higher
abbrev IsLow : Option Row → Option Row → Type 0
IsLow None w = ⊤
IsLow (Some a) None = ⊥
IsLow (Some a) (Some b) = a.priority ≤ b.priority

-- the winner without the entries of a number, beside the winner with them
record Stays (n : ℕ) (w v : Option Row) : Type 0 where
  same : (winner_number w ≡ Some n → ⊥) → v ≡ w
  low : IsLow v w

priority_same : (a b : Row) → Some a ≡ Some b → a.priority ≡ b.priority
priority_same a b e = let s : a ≡ b = cc in ap (λ (r : Row). r.priority) s

stays_kept : (n : ℕ) (x : Row) (w v : Option Row) → Stays n w v → Stays n (better row_priority w x) (better row_priority v x)
stays_kept n x None None s = record { same = λ d. refl; low = omega arith }
stays_kept n x None (Some a) s = absurd s.low
stays_kept n x (Some b) None s = by_test (nat_le x.priority b.priority) refl
  where
    by_test : (t : Bool) → nat_le x.priority b.priority ≡ t → Stays n (cond t (Some b) (Some x)) (Some x)
    by_test true e = record { same = λ d. absurd (let f : None ≡ Some b = s.same d in cc); low = grind (arith, nat_tests) }
    by_test false e = record { same = λ d. refl; low = omega arith }
stays_kept n x (Some b) (Some a) s = by_test (nat_le x.priority b.priority) refl (nat_le x.priority a.priority) refl
  where
    by_test : (t : Bool) → nat_le x.priority b.priority ≡ t → (u : Bool) → nat_le x.priority a.priority ≡ u → Stays n (cond t (Some b) (Some x)) (cond u (Some a) (Some x))
    by_test true e true f = s
    by_test true e false f = record { same = λ d. absurd (let g : a.priority ≡ b.priority = priority_same a b (s.same d) in grind (arith, nat_tests)); low = grind (arith, nat_tests) }
    by_test false e true f = absurd (let low : a.priority ≤ b.priority = s.low in grind (arith, nat_tests))
    by_test false e false f = record { same = λ d. refl; low = omega arith }

stays_dropped : (n : ℕ) (x : Row) (w v : Option Row) → x.number ≡ n → Stays n w v → Stays n (better row_priority w x) v
stays_dropped n x None None is s = record { same = λ d. absurd (d (ap Some is)); low = tt }
stays_dropped n x None (Some a) is s = absurd s.low
stays_dropped n x (Some b) v is s = by_test (nat_le x.priority b.priority) refl
  where
    low_of : (o : Option Row) → IsLow o (Some b) → b.priority < x.priority → IsLow o (Some x)
    low_of None h lt = tt
    low_of (Some a) h lt = omega arith

    by_test : (t : Bool) → nat_le x.priority b.priority ≡ t → Stays n (cond t (Some b) (Some x)) v
    by_test true e = s
    by_test false e = record { same = λ d. absurd (d (ap Some is)); low = low_of v s.low (grind (arith, nat_tests)) }

abbrev StaysAt : ℕ → List Row → (Field → Option ℕ) → Type 0
StaysAt n rows key = Stays n (winner_of rows key) (winner_of (without row_number n rows) key)

stays_more : (n : ℕ) (rows : List Row) (key : Field → Option ℕ) (x : Row) → StaysAt n rows key → StaysAt n (rows ++ x ∷ []) key
stays_more n rows key x s =
    subst (λ (o : Option Row). Stays n o (winner_of (without row_number n (rows ++ x ∷ [])) key)) (sym (winner-push rows key x))
    (subst (λ (xs : List Row). Stays n (cond (is_matching key x) (better row_priority w x) w) (winner_of xs key)) (sym (filter-append (λ (r : Row). not (eqb r.number n)) rows (x ∷ [])))
    (by_number (eqb x.number n) refl))
  where
    w : Option Row
    w = winner_of rows key

    v : Option Row
    v = winner_of (without row_number n rows) key

    kept : (m : Bool) → Stays n (cond m (better row_priority w x) w) (cond m (better row_priority v x) v)
    kept true = stays_kept n x w v s
    kept false = s

    dropped : (m : Bool) → x.number ≡ n → Stays n (cond m (better row_priority w x) w) v
    dropped true is = stays_dropped n x w v is s
    dropped false is = s

    by_number : (b : Bool) → eqb x.number n ≡ b → Stays n (cond (is_matching key x) (better row_priority w x) w) (winner_of (without row_number n rows ++ cond (not b) (x ∷ []) []) key)
    by_number true e = subst (λ (xs : List Row). Stays n (cond (is_matching key x) (better row_priority w x) w) (winner_of xs key)) (sym (append-nil (without row_number n rows))) (dropped (is_matching key x) (eqb-true x.number n e))
    by_number false e = subst (λ (o : Option Row). Stays n (cond (is_matching key x) (better row_priority w x) w) o) (sym (winner-push (without row_number n rows) key x)) (kept (is_matching key x))

stays_after : (n : ℕ) (done rest : List Row) (key : Field → Option ℕ) → StaysAt n done key → StaysAt n (done ++ rest) key
stays_after n done [] key s = subst (λ (xs : List Row). StaysAt n xs key) (sym (append-nil done)) s
stays_after n done (x ∷ rest) key s = subst (λ (xs : List Row). StaysAt n xs key) (append_assoc done (x ∷ []) rest) (stays_after n (done ++ x ∷ []) rest key (stays_more n done key x s))

-- where an entry does not win, the winner stays without it
pub winner-without : (n : ℕ) (rows : List Row) (key : Field → Option ℕ) → (winner_number (winner_of rows key) ≡ Some n → ⊥) → winner_of (without row_number n rows) key ≡ winner_of rows key
winner-without n rows key d = (stays_after n [] rows key (record { same = λ e. refl; low = tt })).same d

-- ---- entries at the end that cannot win

abbrev pub CannotWin : Option Row → Row → Type 0
CannotWin None y = ⊥
CannotWin (Some b) y = y.priority ≤ b.priority

better_stays : (w : Option Row) (y : Row) → CannotWin w y → better row_priority w y ≡ w
better_stays None y h = absurd h
better_stays (Some b) y h = let t : nat_le y.priority b.priority ≡ true = grind (arith, nat_tests) in rw t refl

one_later : (rows : List Row) (key : Field → Option ℕ) (y : Row) (w : Option Row) → winner_of rows key ≡ w → (is_matching key y ≡ true → CannotWin w y) → winner_of (rows ++ y ∷ []) key ≡ w
one_later rows key y w is h = winner-push rows key y ∙ by_test (is_matching key y) refl
  where
    by_test : (m : Bool) → is_matching key y ≡ m → cond m (better row_priority (winner_of rows key) y) (winner_of rows key) ≡ w
    by_test true e = ap (λ (o : Option Row). better row_priority o y) is ∙ better_stays w y (h e)
    by_test false e = is

pub later_stay : (rows ys : List Row) (key : Field → Option ℕ) (w : Option Row) → winner_of rows key ≡ w → ((y : Row) → Contains ys y → is_matching key y ≡ true → CannotWin w y) → winner_of (rows ++ ys) key ≡ w
later_stay rows [] key w is h = ap (λ (xs : List Row). winner_of xs key) (append-nil rows) ∙ is
later_stay rows (y ∷ ys) key w is h =
    ap (λ (xs : List Row). winner_of xs key) (sym (append_assoc rows (y ∷ []) ys))
    ∙ later_stay (rows ++ y ∷ []) ys key w (one_later rows key y w is (h y (Contains-head y ys))) (λ z c. h z (Contains-tail y ys z c))

-- ---- the youngest

pub place_of : {X : Type 0} (xs : List X) (x : X) → Contains xs x → (k : ℕ) × (slice_get xs k ≡ Some x)
place_of [] x h = absurd (Contains-nil x h)
place_of (y ∷ ys) x h = ⊎_elim (λ e. (0, ap Some e)) (λ l. let r = place_of ys x l in (suc r.0, r.1)) (Contains-cons y ys x h)

pub no_higher : (rows : List Row) (key : Field → Option ℕ) (w : Option Row) → winner_of rows key ≡ w → (y : Row) → Contains rows y → is_matching key y ≡ true → CannotWin w y
no_higher rows key None is y c m =
    let p = place_of rows y c in
    let f : is_matching key y ≡ false = (none_both rows key).0 is p.0 y p.1 in
    let t : true ≡ false = sym m ∙ f in
    cc
no_higher rows key (Some b) is y c m =
    let p = place_of rows y c in
    let v = (wins_both rows key b).0 is in
    v.1.highest p.0 y p.1 m

-- what a test keeps is of the list, and passes
pub of_filter : {X : Type 0} (p : X → Bool) (xs : List X) (x : X) → Contains (filter p xs) x → Contains xs x × (p x ≡ true)
of_filter p xs x c = (
  All-contains (Contains xs) (filter p xs) x (All-filter p (Contains xs) xs (All-contains_itself xs)) c,
  All-contains (λ y. p y ≡ true) (filter p xs) x (filter_passes p xs) c,
)

-- where an entry does not win, the winner stays when that entry becomes the youngest
pub winner-moved : (n : ℕ) (rows : List Row) (key : Field → Option ℕ) → (winner_number (winner_of rows key) ≡ Some n → ⊥) → winner_of (moved_to_end row_number n rows) key ≡ winner_of rows key
winner-moved n rows key d =
    later_stay (without row_number n rows) (only row_number n rows) key (winner_of rows key) (winner-without n rows key d)
    (λ y c. no_higher rows key (winner_of rows key) refl y (of_filter (λ (r : Row). eqb r.number n) rows y c).0)
