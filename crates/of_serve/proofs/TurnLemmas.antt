-- Turns: what is told, what is gathered, and the rows that are due.
use Rattle.std.proofs.Common.{◌≡◌, ℕ, ◌+◌, suc, zero, add-one, Bool, true, false, List, [], ◌∷◌, ◌++◌, drop, length, ◌<◌, arith, if◌then◌else◌, Option, Some, None, refl, sym, ◌∙◌, ap, append_assoc}
use Rattle.std.{specs.Prelude.slice_get, proofs.lemmas.List.append-nil}
use Rattle.of_switch.specs.{declared.event.Event.Event, Runs.happened}
use Rattle.of_serve.specs.Turns.{Gathered, gather, gathered, due, left, events_of_row, waits}
use Rattle.of_serve.specs.Told.{then_told, onto, then_onto}

-- TOLD

pub told-told : {A : Type 0} → (k : Option (List A)) (a b : List A) → then_told (then_told k a) b ≡ then_told k (a ++ b)
told-told None a b = refl
told-told (Some as') a b = ap Some (append_assoc as' a b)

pub told-nil : {A : Type 0} → (k : Option (List A)) → then_told k [] ≡ k
told-nil None = refl
told-nil (Some as') = ap Some (append-nil as')

onto-onto : (a b : List ℕ) (cs : List (List ℕ)) → onto b (onto a cs) ≡ onto (a ++ b) cs
onto-onto a b [] = refl
onto-onto a b (c ∷ cs) = ap (λ (x : List ℕ). x ∷ cs) (append_assoc c a b)

onto-nil : (cs : List (List ℕ)) → onto [] cs ≡ cs
onto-nil [] = refl
onto-nil (c ∷ cs) = ap (λ (x : List ℕ). x ∷ cs) (append-nil c)

pub took-took : (k : Option (List (List ℕ))) (a b : List ℕ) → then_onto (then_onto k a) b ≡ then_onto k (a ++ b)
took-took None a b = refl
took-took (Some cs) a b = ap Some (onto-onto a b cs)

pub took-nil : (k : Option (List (List ℕ))) → then_onto k [] ≡ k
took-nil None = refl
took-nil (Some cs) = ap Some (onto-nil cs)

-- GATHERED

pub gathered_more : (es fs : List Event) (g : Gathered) → gathered (es ++ fs) g ≡ gathered fs (gathered es g)
gathered_more [] fs g = refl
gathered_more (e ∷ es) fs g = gathered_more es fs (gather (happened e g.state) g)

-- DUE

pub none_first : (rows : List Event) → slice_get rows 0 ≡ None → rows ≡ []
none_first [] e = refl
none_first (r ∷ rows) e = let h : Some r ≡ None = e in cc

pub due_none : (now : ℕ) (rows : List Event) → slice_get rows 0 ≡ None → due now rows ≡ []
due_none now rows e = ap (due now) (none_first rows e)

pub left_none : (now : ℕ) (rows : List Event) → slice_get rows 0 ≡ None → left now rows ≡ rows
left_none now rows e = ap (left now) (none_first rows e) ∙ sym (none_first rows e)

pub due_waits : (now : ℕ) (row : Event) (rows : List Event) → Some row ≡ slice_get rows 0 → waits now row ≡ true → due now rows ≡ []
due_waits now row [] e t = let h : Some row ≡ None = e in cc
due_waits now row (r ∷ rows) e t =
    let h : Some row ≡ Some r = e in
    let same : row ≡ r = cc in
    ap (λ (b : Bool). if b then [] else (events_of_row r ++ due now rows)) (ap (waits now) (sym same) ∙ t)

pub left_waits : (now : ℕ) (row : Event) (rows : List Event) → Some row ≡ slice_get rows 0 → waits now row ≡ true → left now rows ≡ rows
left_waits now row [] e t = let h : Some row ≡ None = e in cc
left_waits now row (r ∷ rows) e t =
    let h : Some row ≡ Some r = e in
    let same : row ≡ r = cc in
    ap (λ (b : Bool). if b then r ∷ rows else left now rows) (ap (waits now) (sym same) ∙ t)

pub due_acts : (now : ℕ) (row : Event) (rows : List Event) → Some row ≡ slice_get rows 0 → waits now row ≡ false → due now rows ≡ events_of_row row ++ due now (drop 1 rows)
due_acts now row [] e t = let h : Some row ≡ None = e in cc
due_acts now row (r ∷ rows) e t =
    let h : Some row ≡ Some r = e in
    let same : row ≡ r = cc in
    ap (λ (b : Bool). if b then [] else (events_of_row r ++ due now rows)) (ap (waits now) (sym same) ∙ t) ∙ ap (λ (x : Event). events_of_row x ++ due now rows) (sym same)

pub left_acts : (now : ℕ) (row : Event) (rows : List Event) → Some row ≡ slice_get rows 0 → waits now row ≡ false → left now rows ≡ left now (drop 1 rows)
left_acts now row [] e t = let h : Some row ≡ None = e in cc
left_acts now row (r ∷ rows) e t =
    let h : Some row ≡ Some r = e in
    let same : row ≡ r = cc in
    ap (λ (b : Bool). if b then r ∷ rows else left now rows) (ap (waits now) (sym same) ∙ t)

pub one_less : (rows : List Event) → 0 < length rows → length (drop 1 rows) < length rows
one_less [] lt = lt
one_less (r ∷ rows) lt = omega arith

pub row_acts : (now : ℕ) (row : Event) (all rows : List Event) (g0 g g' : Gathered) → Some row ≡ slice_get rows 0 → waits now row ≡ false → gathered (due now all) g0 ≡ gathered (due now rows) g → g' ≡ gathered (events_of_row row) g
    → gathered (due now all) g0 ≡ gathered (due now (drop 1 rows)) g'
row_acts now row all rows g0 g g' e t is done =
    is ∙ (ap (λ (es : List Event). gathered es g) (due_acts now row rows e t) ∙ (gathered_more (events_of_row row) (due now (drop 1 rows)) g ∙ ap (gathered (due now (drop 1 rows))) (sym done)))

drop_suc : (n : ℕ) (rows : List Event) → drop (suc n) rows ≡ drop 1 (drop n rows)
drop_suc zero rows = refl
drop_suc (suc n) [] = refl
drop_suc (suc n) (r ∷ rows) = drop_suc n rows

pub drop_one : (n : ℕ) (rows : List Event) → drop (n + 1) rows ≡ drop 1 (drop n rows)
drop_one n rows = ap (λ (k : ℕ). drop k rows) (add-one n) ∙ drop_suc n rows
