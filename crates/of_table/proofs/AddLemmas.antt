-- Entries after a flow is added.
use Rattle.std.proofs.Common.{◌≡◌, ℕ, ◌<◌, ◌≤◌, suc, true, false, not, List, [], ◌∷◌, ◌++◌, length, take, drop, get_or, Some, None, refl, sym, ap, ◌∙◌, arith}
use Rattle.std.specs.Prelude.{position, map, filter, remove, nat_le, slice_get}
use Rattle.std.{specs.List.list_any, specs.Option.option_map, specs.Cmp.Lexicographic.pointwise, proofs.Math.ListN.get_or-map, proofs.lemmas.Bool.Decides.nat_tests}
use Rattle.std.proofs.{lemmas.List.map-append, lemmas.List.take-map, lemmas.List.drop-map, lemmas.List.length-map, lemmas.List.Quantifiers.position-Some, lemmas.List.Folds.find_at}
use Rattle.std.proofs.lemmas.Option.{slice_get-get_or}
use Rattle.of_wire.specs.Numbered.{is_used, is_distinct, without, moved_to_end}
use Rattle.of_wire.proofs.NumberedLemmas as low
use Rattle.of_oxm.{specs.SameMatch.is_same_match, specs.declared.match_field.MatchField.MatchField, proofs.Same.same_match, proofs.Same.same_fields}
use Rattle.of_oxm.specs.contracts.match_field.MatchFieldPartialEq.TheImpl as the_match_field
use Rattle.of_classifier.specs.Rows.{row_number}
use Rattle.of_table.proofs.PlaceLemmas.{any-map, find-map, filter-map, find_none, filter_others, position_some, position_some-any, position_none}
use Rattle.of_table.specs.Table.{FlowEntry, is_same, is_overlapped, add_flow_fault, kept_flow, with_flow, added}
use Rattle.of_table.specs.Entries.{Numbered, entry_of, numbered_entry, flows_of, classifier_row, rows_of, same_entry, IsNumberFor, added_entries}
use Rattle.of_table.{specs.declared.table_fault.TableFault.TheVariants.Full, specs.declared.entry.Entry.Entry, specs.declared.flow.Flow.Flow, proofs.NumberLemmas.used-rows}

pub same_is : (xs ys : List MatchField) → is_same_match xs ys ≡ true → xs ≡ ys
same_is xs ys h =
    let test = pointwise the_match_field.eq-value.it xs ys in
    (same_fields xs ys test refl).0 (same_match xs ys test refl ∙ h)

pub is_itself : (xs : List MatchField) → is_same_match xs xs ≡ true
is_itself xs =
    let test = pointwise the_match_field.eq-value.it xs xs in
    sym (same_match xs xs test refl) ∙ (same_fields xs xs test refl).1 refl

-- a table of so many lookups and hits
abbrev pub with_entries : ℕ → ℕ → List Entry → Numbered
with_entries lookups matched es = record { lookups = lookups; matched = matched; entries = es }

-- the flow comes last, and no entry is removed
added_new : (now : ℕ) (flow : Flow) (es : List Entry) (e : Entry) → list_any (is_same flow) (flows_of es) ≡ false → entry_of e ≡ with_flow now flow None → es ++ e ∷ [] ≡ added_entries e.number now flow es
added_new now flow es e new is =
    let none : list_any (λ x. is_same flow (entry_of x)) es ≡ false = sym (any-map entry_of (is_same flow) es) ∙ new in
    let made : e ≡ numbered_entry e.number (with_flow now flow None) = ap (numbered_entry e.number) is in
    rw (find_none (λ x. is_same flow (entry_of x)) es none, filter_others (λ x. is_same flow (entry_of x)) es none) (ap (λ (x : Entry). es ++ x ∷ []) made)

pub appended : (now : ℕ) (flow : Flow) (es before after : List Entry) (e : Entry) → list_any (is_same flow) (flows_of es) ≡ false → entry_of e ≡ with_flow now flow None → before ≡ es → after ≡ before ++ e ∷ [] → after ≡ added_entries e.number now flow es
appended now flow es before after e new is was last = rw was at last ∙ added_new now flow es e new is

pub new_number : (flow : Flow) (es : List Entry) (number : ℕ) → list_any (is_same flow) (flows_of es) ≡ false → is_used row_number number (rows_of es) ≡ false → IsNumberFor flow es number
new_number flow es number new unused =
    let none : list_any (λ x. is_same flow (entry_of x)) es ≡ false = sym (any-map entry_of (is_same flow) es) ∙ new in
    rw (find_none (λ x. is_same flow (entry_of x)) es none) (sym (used-rows number es) ∙ unused)

map-remove : {X Y : Type 0} (g : X → Y) (xs : List X) (k : ℕ) → map g (remove xs k) ≡ remove (map g xs) k
map-remove g xs k = map-append g (take k xs) (drop (suc k) xs) ∙ rw (take-map, drop-map) refl

-- the entry at the place of the flow's match and priority
same_there : (flow : Flow) (es : List Entry) (k : ℕ) (e : Entry) → position (λ x. is_same flow (entry_of x)) es ≡ Some k → e ≡ get_or es k e → same_entry flow es ≡ Some e
same_there flow es k e h is =
    let p = λ (x : Entry). is_same flow (entry_of x) in
    let s = position_some p es k h in
    find_at p es ∙ ap (slice_get es) (sym s.0) ∙ slice_get-get_or es k e s.1 ∙ ap Some (sym is)

-- it gets the flow and comes last
pub added_again : (now : ℕ) (flow : Flow) (es : List Entry) (k : ℕ) (e f : Entry) → position (λ x. is_same flow (entry_of x)) es ≡ Some k → e ≡ get_or es k e → remove es k ≡ filter (λ x. not (is_same flow (entry_of x))) es → entry_of f ≡ with_flow now flow (Some (entry_of e)) →
    remove es k ++ f ∷ [] ≡ added_entries f.number now flow es
added_again now flow es k e f h is rest made =
    let there : f ≡ numbered_entry f.number (with_flow now flow (Some (entry_of e))) = ap (numbered_entry f.number) made in
    rw (same_there flow es k e h is, rest) (ap (λ (x : Entry). filter (λ x. not (is_same flow (entry_of x))) es ++ x ∷ []) there)

pub same_number : (flow : Flow) (es : List Entry) (k : ℕ) (e : Entry) (number : ℕ) → position (λ x. is_same flow (entry_of x)) es ≡ Some k → e ≡ get_or es k e → number ≡ e.number → IsNumberFor flow es number
same_number flow es k e number h is same = rw (same_there flow es k e h is) same

-- without the numbers
pub flows_added : (number now : ℕ) (flow : Flow) (es : List Entry) → flows_of (added_entries number now flow es) ≡ added now flow (flows_of es)
flows_added number now flow es =
    map-append entry_of (filter (λ e. not (is_same flow (entry_of e))) es) (numbered_entry number (with_flow now flow (option_map entry_of (same_entry flow es))) ∷ [])
    ∙ rw (filter-map entry_of (λ e. not (is_same flow e)) es, find-map entry_of (is_same flow) es) refl

-- what the classifier knows of it stays
pub row_again : (flow : Flow) (es : List Entry) (k : ℕ) (e f : Entry) → position (λ x. is_same flow (entry_of x)) es ≡ Some k → e ≡ get_or es k e → f.number ≡ e.number → f.flow ≡ kept_flow flow → classifier_row f ≡ classifier_row e
row_again flow es k e f h is number gets =
    let passes : is_same flow (entry_of e) ≡ true = rw (← is) at (position-Some (λ x. is_same flow (entry_of x)) es k e h).1 in
    let priority : e.flow.priority ≡ flow.priority = grind (arith, nat_tests, passes) in
    let test : is_same_match e.flow.fields flow.fields ≡ true = grind (arith, nat_tests, passes) in
    let fields = same_is e.flow.fields flow.fields test in
    rw (number, gets, priority, fields) refl

-- the flow of an entry that replaced another
pub flow_is : (now : ℕ) (flow : Flow) (f : Entry) (e : FlowEntry) → entry_of f ≡ with_flow now flow (Some e) → f.flow ≡ kept_flow flow
flow_is now flow f e is = ap (λ (x : FlowEntry). x.flow) is

pub used_again : (es : List Entry) (k : ℕ) (e : Entry) → k < length es → e ≡ get_or es k e → is_used row_number e.number (rows_of es) ≡ true
used_again es k e lt is = rw (get_or-map classifier_row es k e, ← is) at (low.used_at row_number (rows_of es) k (classifier_row e) (rw length-map lt))

pub rows_again : (es : List Entry) (k : ℕ) (e f : Entry) → is_distinct row_number (rows_of es) ≡ true → k < length es → e ≡ get_or es k e → classifier_row f ≡ classifier_row e → rows_of (remove es k ++ f ∷ []) ≡ moved_to_end row_number e.number (rows_of es)
rows_again es k e f distinct lt is same =
    let value : get_or (rows_of es) k (classifier_row e) ≡ classifier_row e = get_or-map classifier_row es k e ∙ ap classifier_row (sym is) in
    let r = low.renewed_at row_number (rows_of es) k (classifier_row e) e.number distinct (rw length-map lt) (rw value refl) in
    map-append classifier_row (remove es k) (f ∷ []) ∙ rw (map-remove classifier_row es k, same) (rw value at r)

-- without it
pub rows_gone : (es : List Entry) (k : ℕ) (e : Entry) → is_distinct row_number (rows_of es) ≡ true → k < length es → e ≡ get_or es k e → without row_number e.number (rows_of es) ≡ rows_of (remove es k)
rows_gone es k e distinct lt is =
    let value : get_or (rows_of es) k (classifier_row e) ≡ classifier_row e = get_or-map classifier_row es k e ∙ ap classifier_row (sym is) in
    let m = (low.moved row_number (rows_of es) k (classifier_row e) distinct (rw length-map lt)).0 in
    sym (map-remove classifier_row es k ∙ (rw value at m))

-- where there is no entry of the flow's match and priority
pub new_flow : (flow : Flow) (es : List Entry) → position (λ x. is_same flow (entry_of x)) es ≡ None → list_any (is_same flow) (flows_of es) ≡ false
new_flow flow es h = any-map entry_of (is_same flow) es ∙ position_none (λ x. is_same flow (entry_of x)) es h

pub old_flow : (flow : Flow) (es : List Entry) (k : ℕ) → position (λ x. is_same flow (entry_of x)) es ≡ Some k → list_any (is_same flow) (flows_of es) ≡ true
old_flow flow es k h = any-map entry_of (is_same flow) es ∙ position_some-any (λ x. is_same flow (entry_of x)) es k h

-- ---- why a flow is not added

pub fault_full : (flow : Flow) (es : List Entry) → is_overlapped flow (flows_of es) ≡ false → position (λ x. is_same flow (entry_of x)) es ≡ None → 4096 ≤ length es → add_flow_fault flow (flows_of es) ≡ Some Full
fault_full flow es apart h le =
    let long : 4096 ≤ length (flows_of es) = rw length-map le in
    let test : nat_le 4096 (length (flows_of es)) ≡ true = grind (arith, nat_tests) in
    rw (apart, new_flow flow es h, test) refl

pub fault_old : (flow : Flow) (es : List Entry) (k : ℕ) → is_overlapped flow (flows_of es) ≡ false → position (λ x. is_same flow (entry_of x)) es ≡ Some k → add_flow_fault flow (flows_of es) ≡ None
fault_old flow es k apart h = rw (apart, old_flow flow es k h) refl
