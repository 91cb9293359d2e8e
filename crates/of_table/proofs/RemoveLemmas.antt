-- Entries after one more of them was checked, and removed if the cause applies to it.
use Rattle.std.proofs.Common.{◌≡◌, ℕ, ◌+◌, ◌<◌, Bool, true, false, cond, eqb, List, [], ◌∷◌, ◌++◌, length, get_or, take, drop, Option, Some, None, refl, sym, ap, ◌∙◌, arith, append_assoc}
use Rattle.std.{specs.Prelude.map, specs.Prelude.is_some, specs.Prelude.is_none, specs.Option.option_map, specs.Option.option_to_list, proofs.lemmas.Bool.Decides.nat_tests}
use Rattle.std.proofs.{lemmas.List.map-append, lemmas.List.append-nil, lemmas.List.drop_more, lemmas.List.take_more, lemmas.List.Elements.filter-append}
use Rattle.of_wire.{specs.Numbered.is_used, specs.Numbered.is_distinct, specs.Numbered.without, specs.declared.reasons.FlowRemovedReason.FlowRemovedReason, proofs.NumberedLemmas.without_unused}
use Rattle.of_classifier.specs.{declared.Row.Row, Rows.row_number}
use Rattle.of_table.specs.Selecting.{Notice, NumberedNotice, stays, entries_left, reason_of, notice_by, notices, notice_of, notices_of, numbered_notice, told_by, numbered_notices, all_told, kept_of}
use Rattle.of_table.specs.{Entries.entry_of, Entries.flows_of, Entries.classifier_row, Entries.rows_of, declared.selection.Cause.Cause, declared.selection.Removed.Removed}
use Rattle.of_table.{specs.declared.entry.Entry.Entry, proofs.PlaceLemmas.filter-map}

-- an element stands between others
used_between : {X : Type 0} (f : X → ℕ) (xs ys : List X) (x : X) → is_used f (f x) (xs ++ x ∷ ys) ≡ true
used_between f [] ys x = grind (arith, nat_tests)
used_between f (y ∷ xs) ys x = let rest = used_between f xs ys x in grind (arith, nat_tests, rest)

-- where numbers are distinct, it alone has its number
without_between : {X : Type 0} (f : X → ℕ) (xs ys : List X) (x : X) → is_distinct f (xs ++ x ∷ ys) ≡ true → without f (f x) (xs ++ x ∷ ys) ≡ xs ++ ys
without_between f [] ys x h =
    let unused : is_used f (f x) ys ≡ false = grind (arith, nat_tests, h) in
    let same : eqb (f x) (f x) ≡ true = grind (arith, nat_tests) in
    rw same (without_unused f (f x) ys unused)
without_between {X} f (y ∷ xs) ys x h =
    let rest : is_distinct f (xs ++ x ∷ ys) ≡ true = grind (arith, nat_tests, h) in
    let used = used_between f xs ys x in
    let apart : eqb (f y) (f x) ≡ false = apart_by (eqb (f y) (f x)) refl h in
    rw apart (ap (λ (zs : List X). y ∷ zs) (without_between f xs ys x rest))
  where
    apart_by : (b : Bool) → eqb (f y) (f x) ≡ b → is_distinct f (y ∷ (xs ++ x ∷ ys)) ≡ true → b ≡ false
    apart_by true e d =
        let same : f y ≡ f x = grind (arith, nat_tests, e) in
        let used : is_used f (f y) (xs ++ x ∷ ys) ≡ true = rw same (used_between f xs ys x) in
        let never : true ≡ false = grind (arith, nat_tests, used, d) in
        never
    apart_by false e d = refl

-- the entries of which so many were checked: those of them that stay, and the others
abbrev pub looked_to : Cause → ℕ → List Entry → List Entry
looked_to cause i es = kept_of cause (take i es) ++ drop i es

-- among entries k and r, the one between them stays or is removed
between : (b : Bool) (k r : List Entry) (e : Entry) → is_distinct row_number (rows_of (k ++ e ∷ r)) ≡ true →
    cond b (rows_of (k ++ e ∷ r)) (without row_number e.number (rows_of (k ++ e ∷ r))) ≡ rows_of ((k ++ cond b (e ∷ []) []) ++ r)
between true k r e distinct = ap rows_of (sym (append_assoc k (e ∷ []) r))
between false k r e distinct =
    let parts : rows_of (k ++ e ∷ r) ≡ rows_of k ++ classifier_row e ∷ rows_of r = map-append classifier_row k (e ∷ r) in
    let apart : is_distinct row_number (rows_of k ++ classifier_row e ∷ rows_of r) ≡ true = rw parts at distinct in
    ap (without row_number e.number) parts ∙ without_between row_number (rows_of k) (rows_of r) (classifier_row e) apart ∙ sym (map-append classifier_row k r)
    ∙ ap (λ (zs : List Entry). rows_of (zs ++ r)) (sym (append-nil k))

-- the entry that comes next is removed if the cause applies to it
looked_more : (cause : Cause) (es : List Entry) (i : ℕ) (e d : Entry) → i < length es → e ≡ get_or es i d → is_distinct row_number (rows_of (looked_to cause i es)) ≡ true →
    cond (stays cause (entry_of e)) (rows_of (looked_to cause i es)) (without row_number e.number (rows_of (looked_to cause i es))) ≡ rows_of (looked_to cause (i + 1) es)
looked_more cause es i e d lt at distinct =
    let next : drop i es ≡ e ∷ drop (i + 1) es = drop_more es i d lt ∙ ap (λ (x : Entry). x ∷ drop (i + 1) es) (sym at) in
    let taken : take (i + 1) es ≡ take i es ++ e ∷ [] = take_more es i d lt ∙ ap (λ (x : Entry). take i es ++ x ∷ []) (sym at) in
    let before : looked_to cause i es ≡ kept_of cause (take i es) ++ e ∷ drop (i + 1) es = ap (λ (xs : List Entry). kept_of cause (take i es) ++ xs) next in
    let after : looked_to cause (i + 1) es ≡ (kept_of cause (take i es) ++ kept_of cause (e ∷ [])) ++ drop (i + 1) es =
    ap (λ (xs : List Entry). xs ++ drop (i + 1) es) (ap (kept_of cause) taken ∙ filter-append (λ x. stays cause (entry_of x)) (take i es) (e ∷ [])) in
    let apart : is_distinct row_number (rows_of (kept_of cause (take i es) ++ e ∷ drop (i + 1) es)) ≡ true = rw before at distinct in
    (λ j. cond (stays cause (entry_of e)) (rows_of (before j)) (without row_number e.number (rows_of (before j))))
    ∙ between (stays cause (entry_of e)) (kept_of cause (take i es)) (drop (i + 1) es) e apart ∙ ap rows_of (sym after)

taken_more : (cause : Cause) (es : List Entry) (i : ℕ) (e : Entry) (before after : List Row) → i < length es → e ≡ get_or es i e → before ≡ rows_of (looked_to cause i es) → is_distinct row_number before ≡ true →
    after ≡ cond (stays cause (entry_of e)) before (without row_number e.number before) → after ≡ rows_of (looked_to cause (i + 1) es)
taken_more cause es i e before after lt at is distinct took = rw is at took ∙ looked_more cause es i e e lt at (rw is at distinct)

pub goes_by : (o : Option FlowRemovedReason) → true ≡ is_some o → is_none o ≡ false
goes_by None h = absurd cc
goes_by (Some reason) h = refl

pub stays_by : (o : Option FlowRemovedReason) → false ≡ is_some o → is_none o ≡ true
stays_by None h = refl
stays_by (Some reason) h = absurd cc

pub taken_goes : (cause : Cause) (es : List Entry) (i : ℕ) (e : Entry) (before after : List Row) → i < length es → e ≡ get_or es i e → before ≡ rows_of (looked_to cause i es) → is_distinct row_number before ≡ true → true ≡ is_some (reason_of cause (entry_of e)) →
    after ≡ without row_number e.number before → after ≡ rows_of (looked_to cause (i + 1) es)
taken_goes cause es i e before after lt at is distinct some took = taken_more cause es i e before after lt at is distinct (rw (goes_by (reason_of cause (entry_of e)) some) took)

pub taken_stays : (cause : Cause) (es : List Entry) (i : ℕ) (e : Entry) (before after : List Row) → i < length es → e ≡ get_or es i e → before ≡ rows_of (looked_to cause i es) → is_distinct row_number before ≡ true → false ≡ is_some (reason_of cause (entry_of e)) →
    after ≡ before → after ≡ rows_of (looked_to cause (i + 1) es)
taken_stays cause es i e before after lt at is distinct none same = taken_more cause es i e before after lt at is distinct (rw (stays_by (reason_of cause (entry_of e)) none) same)

-- ---- the same without the numbers

pub flows_left : (cause : Cause) (es : List Entry) → flows_of (kept_of cause es) ≡ entries_left cause (flows_of es)
flows_left cause es = sym (filter-map entry_of (stays cause) es)

-- a notice without the number
abbrev pub untold : NumberedNotice → Notice
untold t = record { table = t.table; reason = t.reason; entry = entry_of t.entry }

pub notices_all : (removed : List Removed) → notices_of removed ≡ map untold (all_told removed)
notices_all [] = refl
notices_all (r ∷ removed) = ap (λ (ns : List Notice). notice_of r ∷ ns) (notices_all removed)

told_one : (table : ℕ) (e : Entry) (reason : Option FlowRemovedReason) → map untold (option_to_list (told_by table e reason)) ≡ option_to_list (notice_by table (entry_of e) reason)
told_one table e None = refl
told_one table e (Some reason) = by_test e.flow.flags.send_removed
  where
    by_test : (b : Bool) → map untold (option_to_list (option_map (numbered_notice e) (cond b (Some (record { table = table; reason = reason; entry = entry_of e })) None))) ≡ option_to_list (cond b (Some (record { table = table; reason = reason; entry = entry_of e })) None)
    by_test true = refl
    by_test false = refl

pub notices_told : (cause : Cause) (table : ℕ) (es : List Entry) → map untold (numbered_notices cause table es) ≡ notices cause table (flows_of es)
notices_told cause table [] = refl
notices_told cause table (e ∷ es) =
    map-append untold (option_to_list (told_by table e (reason_of cause (entry_of e)))) (numbered_notices cause table es)
    ∙ (λ i. told_one table e (reason_of cause (entry_of e)) i ++ notices_told cause table es i)
