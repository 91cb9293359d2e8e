-- Lists of copies.
use Rattle.std.proofs.Common.{◌≡◌, ℕ, zero, suc, ◌+◌, ◌-◌, ◌<◌, ◌≤◌, List, [], ◌∷◌, ◌++◌, get_or, take, cond, length, refl, ap, ◌∙◌, arith}
use Rattle.std.{specs.Prelude.replicate, proofs.lemmas.List.Sums.sum_by_more, proofs.lemmas.List.Sums.sum_by-take-le}
use Rattle.of_wire.proofs.Changing.{changed_to}
use Rattle.of_table.specs.{declared.selection.Selector.Selector, declared.entry.Entry.Entry, Copies.Supply, Copies.is_modified, Copies.wanted}

pub replicate_more : {X : Type 0} (n : ℕ) (x : X) → replicate n x ++ x ∷ [] ≡ replicate (suc n) x
replicate_more zero x = refl
replicate_more {X} (suc n) x = ap (λ (xs : List X). x ∷ xs) (replicate_more n x)

pub take-replicate : {X : Type 0} (n k : ℕ) (x : X) → k ≤ n → take k (replicate n x) ≡ replicate k x
take-replicate n zero x le = refl
take-replicate zero (suc k) x le = absurd (omega (arith, le))
take-replicate {X} (suc n) (suc k) x le = ap (λ (xs : List X). x ∷ xs) (take-replicate n k x (omega (arith, le)))

-- one more entry
pub wanted_next : (w : Selector) (es : List Entry) (i : ℕ) (d : Entry) → i < length es → wanted w (take (i + 1) es) ≡ wanted w (take i es) + cond (is_modified w (get_or es i d)) 1 0
wanted_next w es i d lt = sum_by_more (λ e. cond (is_modified w e) 1 0) es i d lt

-- a part needs no more than all
pub wanted_some : (w : Selector) (es : List Entry) (i : ℕ) → wanted w (take i es) ≤ wanted w es
wanted_some w es i = sum_by-take-le (λ e. cond (is_modified w e) 1 0) es i

-- ---- so many copies are there, after more are made or some are taken

supply_is : (s t : Supply) → s.instructions ≡ t.instructions → s.count ≡ t.count → s ≡ t
supply_is s t same count = λ j. record { instructions = same j; count = count j }

pub supply_more : (start now next : Supply) (m k n : ℕ) → now ≡ record start { count = start.count + m } → next ≡ record now { count = now.count + k } → n ≡ m + k → next ≡ record start { count = start.count + n }
supply_more start now next m k n was is sum =
    let before : now.count ≡ start.count + m = ap (λ (s : Supply). s.count) was in
    let after : next.count ≡ now.count + k = ap (λ (s : Supply). s.count) is in
    supply_is next (record start { count = start.count + n }) (ap (λ (s : Supply). s.instructions) is ∙ ap (λ (s : Supply). s.instructions) was) (omega arith)

pub supply_less : (start now next : Supply) (m k n : ℕ) → now ≡ record start { count = start.count - m } → next ≡ record now { count = now.count - k } → n ≡ m + k → next ≡ record start { count = start.count - n }
supply_less start now next m k n was is sum =
    let before : now.count ≡ start.count - m = ap (λ (s : Supply). s.count) was in
    let after : next.count ≡ now.count - k = ap (λ (s : Supply). s.count) is in
    supply_is next (record start { count = start.count - n }) (ap (λ (s : Supply). s.instructions) is ∙ ap (λ (s : Supply). s.instructions) was) (omega arith)

pub supply_none : (s : Supply) (n : ℕ) → n ≡ 0 → s ≡ record s { count = s.count - n }
supply_none s n none = supply_is s (record s { count = s.count - n }) refl (omega arith)

-- there are enough for the next
pub supply_room : (start now : Supply) (m k n all : ℕ) → now ≡ record start { count = start.count - m } → n ≡ m + k → n ≤ all → all ≤ start.count → k ≤ now.count
supply_room start now m k n all was sum part enough =
    let before : now.count ≡ start.count - m = ap (λ (s : Supply). s.count) was in
    omega arith

changed_at : {X : Type 0} (f : X → X) (i : ℕ) (xs : List X) (d : X) → i < length xs → get_or (changed_to f i xs) i d ≡ get_or xs i d
changed_at f i [] d lt = absurd (omega (arith, lt))
changed_at f zero (x ∷ xs) d lt = refl
changed_at f (suc i) (x ∷ xs) d lt = changed_at f i xs d (omega (arith, lt))

-- the entry that comes next needs what it needed before
pub wanted_now : (w : Selector) (f : Entry → Entry) (all es : List Entry) (i : ℕ) (d : Entry) → i < length all → es ≡ changed_to f i all → wanted w (take (i + 1) all) ≡ wanted w (take i all) + cond (is_modified w (get_or es i d)) 1 0
wanted_now w f all es i d lt so =
    let at : get_or es i d ≡ get_or all i d = ap (λ (xs : List Entry). get_or xs i d) so ∙ changed_at f i all d lt in
    rw at (wanted_next w all i d lt)
