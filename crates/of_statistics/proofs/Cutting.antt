-- Rows that are packed into replies.
use Rattle.std.proofs.Common.{◌≡◌, ◌≤◌, ◌<◌, ℕ, ◌+◌, Bool, true, false, cond, List, [], ◌∷◌, ◌++◌, length, drop, take, map, get_or, refl, sym, ap, subst, ◌∙◌, arith}
use Rattle.std.specs.Prelude.{nat_le, Result, Ok, Err, OnOk}
use Rattle.std.proofs.lemmas.List.{append_assoc, append-nil, map-append, take_more, length-append}
use Rattle.std.{specs.List.concat, specs.List.AllByRecursion as ByRecursion, proofs.lemmas.List.Folds.concat-append}
use Rattle.std.proofs.{lemmas.List.Elements.recursion_from_All, lemmas.List.Elements.All-from_recursion, lemmas.Bool.Decides.nat_tests}
use Rattle.of_statistics.specs.Replies.{Draft, IsFull, AreReplies, AreWithin, reply, more, most, empty_draft, filled, with_row, with_rows, closed, replies, rows_in}

-- one row after the other
pub rows_more : (d : Draft) (xs ys : List (List ℕ)) → with_rows d (xs ++ ys) ≡ with_rows (with_rows d xs) ys
unfolding with_rows
rows_more d [] ys = refl
rows_more d (x ∷ xs) ys = rows_more (with_row d x) xs ys

pub one_row : (d : Draft) (x : List ℕ) → with_rows d (x ∷ []) ≡ with_row d x
unfolding with_rows
one_row d x = refl

-- a row was put, or none
pub row_put : {A E : Type 0} (r : Result A E) (before after : Draft) (row : List ℕ) (rows : List (List ℕ)) → rows ≡ row ∷ [] → OnOk r (after ≡ with_row before row) → OnOk r (after ≡ with_rows before rows)
row_put (Err e) before after row rows is put = tt
row_put (Ok x) before after row rows is put = put ∙ sym (one_row before row) ∙ ap (with_rows before) (sym is)

pub none_put : (d : Draft) (rows : List (List ℕ)) → rows ≡ [] → d ≡ with_rows d rows
unfolding with_rows
none_put d rows is = let none : with_rows d [] ≡ d = refl in sym (ap (with_rows d) is ∙ none)

-- one more row of a list
pub row_more : {X : Type 0} (row : X → List ℕ) (xs : List X) (i : ℕ) (x d : X) (start before after : Draft) → i < length xs → x ≡ get_or xs i d → before ≡ with_rows start (map row (take i xs)) → after ≡ with_row before (row x)
    → after ≡ with_rows start (map row (take (i + 1) xs))
row_more row xs i x d start before after lt at was is =
    let these = map row (take i xs) in
    let next : map row (take (i + 1) xs) ≡ these ++ row (get_or xs i d) ∷ [] = ap (map row) (take_more xs i d lt) ∙ map-append row (take i xs) (get_or xs i d ∷ []) in
    is ∙ ap (with_row before) (ap row at) ∙ sym (one_row before (row (get_or xs i d))) ∙ ap (λ (t : Draft). with_rows t (row (get_or xs i d) ∷ [])) was ∙ sym (rows_more start these (row (get_or xs i d) ∷ [])) ∙ ap (with_rows start) (sym next)

pub no_rows : (d : Draft) → d ≡ with_rows d []
unfolding with_rows
no_rows d = refl

-- ---- joined

joined-append : (ms ns : List (List ℕ)) → rows_in (ms ++ ns) ≡ rows_in ms ++ rows_in ns
joined-append [] ns = refl
joined-append (m ∷ ms) ns = ap (λ (t : List ℕ). drop 16 m ++ t) (joined-append ms ns) ∙ sym (append_assoc (drop 16 m) (rows_in ms) (rows_in ns))

joined-closed : (d : Draft) → rows_in (closed d) ≡ rows_in d.full ++ d.rows
unfolding reply
joined-closed d = joined-append d.full (reply d.xid d.kind 0 d.rows ∷ []) ∙ ap (λ (t : List ℕ). rows_in d.full ++ t) (append-nil d.rows)

joined_row : (d : Draft) (x : List ℕ) → rows_in (closed (with_row d x)) ≡ rows_in (closed d) ++ x
unfolding reply
joined_row d x = by_test (nat_le (length d.rows + length x) most)
  where
    by_test : (b : Bool) → rows_in (closed (cond b (record d { rows = d.rows ++ x }) (record d { full = d.full ++ filled d ∷ []; rows = x }))) ≡ rows_in (closed d) ++ x
    by_test true = joined-closed (record d { rows = d.rows ++ x }) ∙ sym (append_assoc (rows_in d.full) d.rows x) ∙ ap (λ (t : List ℕ). t ++ x) (sym (joined-closed d))
    by_test false =
        joined-closed (record d { full = d.full ++ filled d ∷ []; rows = x })
        ∙ ap (λ (t : List ℕ). t ++ x) (joined-append d.full (filled d ∷ []) ∙ ap (λ (t : List ℕ). rows_in d.full ++ t) (append-nil d.rows) ∙ sym (joined-closed d))

joined_rows : (d : Draft) (rows : List (List ℕ)) → rows_in (closed (with_rows d rows)) ≡ rows_in (closed d) ++ concat rows
unfolding with_rows
joined_rows d [] = sym (append-nil (rows_in (closed d)))
joined_rows d (x ∷ rows) = joined_rows (with_row d x) rows ∙ ap (λ (t : List ℕ). t ++ concat rows) (joined_row d x) ∙ append_assoc (rows_in (closed d)) x (concat rows)

pub joined : (xid kind : ℕ) (rows : List (List ℕ)) → rows_in (replies xid kind rows) ≡ concat rows
unfolding reply
joined xid kind rows = joined_rows (empty_draft xid kind) rows

-- ---- cut

-- the replies after those that are full, where the open one begins with the rows
abbrev Behind : Draft → List (List ℕ) → List (List ℕ) → List (List ℕ) → Type 0
Behind d front rows all = (ms : List (List ℕ)) × (all ≡ d.full ++ ms) × AreReplies d.xid d.kind (front ++ rows) ms

-- it holds for these rows, whatever comes before
abbrev HoldsOf : List (List ℕ) → Type 0
HoldsOf rows = (d : Draft) (front : List (List ℕ)) → d.rows ≡ concat front → Behind d front rows (closed (with_rows d rows))

one_more : (xid kind : ℕ) (front : List (List ℕ)) (x : List ℕ) (rows : List (List ℕ)) (m : List ℕ) (ms : List (List ℕ)) → IsFull xid kind front x m → AreReplies xid kind (x ∷ rows) ms → AreReplies xid kind (front ++ x ∷ rows) (m ∷ ms)
one_more xid kind front x rows m [] full behind = absurd behind
one_more xid kind front x rows m (n ∷ ms) full behind = (front, x, rows, refl, full, behind)

joins : (d : Draft) (front : List (List ℕ)) (x : List ℕ) (rows : List (List ℕ)) → HoldsOf rows → d.rows ≡ concat front → Behind d front (x ∷ rows) (closed (with_rows (record d { rows = d.rows ++ x }) rows))
joins d front x rows holds is =
    let whole : d.rows ++ x ≡ concat (front ++ x ∷ []) = ap (λ (t : List ℕ). t ++ x) is ∙ sym (concat-append front (x ∷ []) ∙ ap (λ (t : List ℕ). concat front ++ t) (append-nil x)) in
    let then = holds (record d { rows = d.rows ++ x }) (front ++ x ∷ []) whole in
    (then.0, then.1, subst (λ (rs : List (List ℕ)). AreReplies d.xid d.kind rs then.0) (append_assoc front (x ∷ []) rows) then.2)

begins : (d : Draft) (front : List (List ℕ)) (x : List ℕ) (rows : List (List ℕ)) → HoldsOf rows → d.rows ≡ concat front → most < length d.rows + length x
    → Behind d front (x ∷ rows) (closed (with_rows (record d { full = d.full ++ filled d ∷ []; rows = x }) rows))
begins d front x rows holds is over =
    let then = holds (record d { full = d.full ++ filled d ∷ []; rows = x }) (x ∷ []) (sym (append-nil x)) in
    let full : IsFull d.xid d.kind front x (filled d) = record { holds = ap (reply d.xid d.kind more) is; full = omega (arith, over, ap length is) } in
    (filled d ∷ then.0, then.1 ∙ append_assoc d.full (filled d ∷ []) then.0, one_more d.xid d.kind front x rows (filled d) then.0 full then.2)

by_test : (d : Draft) (front : List (List ℕ)) (x : List ℕ) (rows : List (List ℕ)) → HoldsOf rows → d.rows ≡ concat front
    → (b : Bool) → nat_le (length d.rows + length x) most ≡ b → Behind d front (x ∷ rows) (closed (with_rows (cond b (record d { rows = d.rows ++ x }) (record d { full = d.full ++ filled d ∷ []; rows = x })) rows))
by_test d front x rows holds is true e = joins d front x rows holds is
by_test d front x rows holds is false e = begins d front x rows holds is (grind (arith, nat_tests, e))

behind : (rows : List (List ℕ)) → HoldsOf rows
unfolding with_rows
behind [] d front is =
    let whole : d.rows ≡ concat (front ++ []) = is ∙ ap concat (sym (append-nil front)) in
    (reply d.xid d.kind 0 d.rows ∷ [], refl, ap (reply d.xid d.kind 0) whole)
behind (x ∷ rows) d front is = by_test d front x rows (behind rows) is (nat_le (length d.rows + length x) most) refl

pub cut : (xid kind : ℕ) (rows : List (List ℕ)) → AreReplies xid kind rows (replies xid kind rows)
cut xid kind rows =
    let all = behind rows (empty_draft xid kind) [] refl in
    subst (λ (ms : List (List ℕ)). AreReplies xid kind rows ms) (sym all.1) all.2

-- ---- each fits

abbrev Within : ℕ → List (List ℕ) → Type 0
Within size = ByRecursion (λ bytes. length bytes ≤ size)

reply_fits : (xid kind flags : ℕ) (body : List ℕ) → length body ≤ most → length (reply xid kind flags body) ≤ 65535
unfolding reply
reply_fits xid kind flags body le = omega (arith, le)

one_fits_more : (ms : List (List ℕ)) (m : List ℕ) → Within 65535 ms → length m ≤ 65535 → Within 65535 (ms ++ m ∷ [])
one_fits_more [] m all le = (le, tt)
one_fits_more (n ∷ ms) m all le = (all.0, one_fits_more ms m all.1 le)

all_fit : (rows : List (List ℕ)) (d : Draft) → Within most rows → Within 65535 d.full → length d.rows ≤ most → Within 65535 (closed (with_rows d rows))
unfolding with_rows
all_fit [] d short full le = one_fits_more d.full _ full (reply_fits d.xid d.kind 0 d.rows le)
all_fit (x ∷ rows) d short full le = fit_by (nat_le (length d.rows + length x) most) refl (λ (e : Draft). all_fit rows e short.1)
  where
    fit_by : (b : Bool) → nat_le (length d.rows + length x) most ≡ b → ((e : Draft) → Within 65535 e.full → length e.rows ≤ most → Within 65535 (closed (with_rows e rows)))
        → Within 65535 (closed (with_rows (cond b (record d { rows = d.rows ++ x }) (record d { full = d.full ++ filled d ∷ []; rows = x })) rows))
    fit_by true e others = let sum : length d.rows + length x ≤ most = grind (arith, nat_tests, e) in others (record d { rows = d.rows ++ x }) full (omega (arith, sum, length-append d.rows x))
    fit_by false e others = others (record d { full = d.full ++ filled d ∷ []; rows = x }) (one_fits_more d.full (filled d) full (reply_fits d.xid d.kind more d.rows le)) short.0

pub fit : (xid kind : ℕ) (rows : List (List ℕ)) → AreWithin most rows → AreWithin 65535 (replies xid kind rows)
fit xid kind rows short = All-from_recursion (λ bytes. length bytes ≤ 65535) (replies xid kind rows) (all_fit rows (empty_draft xid kind) (recursion_from_All (λ bytes. length bytes ≤ most) rows short) tt (omega arith))
