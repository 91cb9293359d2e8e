-- What is outside a span, where none passes, does not count.
use Rattle.std.proofs.Common.{◌≡◌, ℕ, suc, zero, ◌+◌, ◌-◌, ◌<◌, ◌≤◌, Bool, true, false, not, cond, ◌&&◌, ◌||◌, List, [], ◌∷◌, ◌++◌, Option, Some, None, Result, Ok, Err, length, get_or, take, drop, refl, sym, ap, subst, ◌∙◌, arith, add-one}
use Rattle.std.specs.Prelude.{OnOk, count_by, map, position, remove}
use Rattle.std.specs.{Option.option_to_list, List.list_any, List.list_all, List.slice_range}
use Rattle.std.proofs.{lemmas.List.take-append-drop, lemmas.List.append-nil, lemmas.List.map-append, lemmas.List.drop_more, lemmas.List.Concat.flat_map-append, lemmas.List.Elements.filter-append}
use Rattle.std.proofs.{lemmas.List.Folds.drop_split, lemmas.List.Quantifiers.position-Some, lemmas.List.Sums.sum_by-cons, lemmas.List.Sums.sum_by-append, lemmas.List.Sums.sum_by-take-drop}
use Rattle.of_actions.specs.declared.instruction.Instruction.{Instruction}
use Rattle.of_oxm.specs.declared.match_field.MatchField.{MatchField}
use Rattle.of_classifier.specs.Rows.{is_same_row}
use Rattle.of_table.specs.Entries.{Numbered, entry_of, flows_of, classifier_row, on_entry}
use Rattle.of_table.specs.Selecting.{is_meant_by, is_meant, modifies, selects, modified_by, modified_entries, stays, reason_of, kept_of, NumberedNotice, told_by, numbered_notices}
use Rattle.of_table.specs.{declared.entry.Entry.Entry, declared.selection.Selector.Selector, declared.selection.Cause.Cause, declared.selection.Cause.TheVariants.Delete, Table.FlowEntry}
use Rattle.of_table.specs.{Copies.Supply, Copies.is_modified, Copies.wanted, Copies.wanted_in, Tables.is_in, Tables.concerns, Tables.told_table, Tables.kept_table, Deadlines.all_stay}
use Rattle.of_table.{specs.Sound.Key, specs.Sound.entry_key, specs.Sound.is_same_key, specs.Sound.are_unlike, specs.Spans.Outside, proofs.PlaceLemmas.any-map, proofs.PlaceLemmas.position_none}
use Rattle.of_table.proofs.{Unlike.same_key, Unlike.unlike_parts, Unlike.none_first, Unlike.none_second, DeadlineLemmas.all_kept, DeadlineLemmas.none_told}
use Rattle.of_wire.proofs.Changing.{changed_to}

-- ---- lists in parts

pub in_parts : {X : Type 0} (xs : List X) (a b : ℕ) → a ≤ b → xs ≡ take a xs ++ (slice_range xs a b ++ drop b xs)
in_parts {X} xs a b le = sym (take-append-drop a xs) ∙ ap (λ (ys : List X). take a xs ++ ys) (drop_split xs a b le)

-- a test that fewer pass
none_less : {X : Type 0} (p q : X → Bool) → ((x : X) → p x ≡ false → q x ≡ false) → (xs : List X) → list_any p xs ≡ false → list_any q xs ≡ false
none_less p q less [] h = refl
none_less p q less (x ∷ xs) h = rw (less x (none_first (p x) (list_any p xs) h), none_less p q less xs (none_second (p x) (list_any p xs) h)) refl

pub outside_less : {X : Type 0} (p q : X → Bool) (xs : List X) (a b : ℕ) → ((x : X) → p x ≡ false → q x ≡ false) → Outside p xs a b → Outside q xs a b
outside_less p q xs a b less o = record {
  order = o.order;
  within = o.within;
  before = none_less p q less (take a xs) o.before;
  behind = none_less p q less (drop b xs) o.behind;
}

-- that of none
pub none_inside : {X : Type 0} (p : X → Bool) (xs : List X) → list_any p xs ≡ false → Outside p xs 0 0
none_inside p xs h = record { order = omega arith; within = omega arith; before = refl; behind = h }

-- ---- the entry of a priority and match

abbrev pub of_key : Key → Entry → Bool
of_key key e = is_same_key key (entry_key (entry_of e))

none_behind : (key : Key) (es : List Entry) (k : ℕ) (d : Entry) → are_unlike (map entry_key (flows_of es)) ≡ true → k < length es → of_key key (get_or es k d) ≡ true → list_any (of_key key) (drop (suc k) es) ≡ false
none_behind key [] k d unlike lt is = absurd (omega (arith, lt))
none_behind key (e ∷ es) zero d unlike lt is =
    let parts = unlike_parts (entry_of e) (flows_of es) unlike in
    let same : entry_key (entry_of e) ≡ key = same_key key (entry_key (entry_of e)) is in
    sym (any-map entry_of (λ f. is_same_key key (entry_key f)) es) ∙ subst (λ (l : Key). list_any (λ f. is_same_key l (entry_key f)) (flows_of es) ≡ false) same parts.0
none_behind key (e ∷ es) (suc k) d unlike lt is = none_behind key es k d (unlike_parts (entry_of e) (flows_of es) unlike).1 (omega (arith, lt)) is

none_before : {X : Type 0} (p : X → Bool) (xs : List X) (k : ℕ) (d : X) → k ≤ length xs → ((j : ℕ) → j < k → p (get_or xs j d) ≡ false) → list_any p (take k xs) ≡ false
none_before p xs zero d le h = refl
none_before p [] (suc k) d le h = refl
none_before p (x ∷ xs) (suc k) d le h = rw (h 0 (omega arith), none_before p xs k d (omega (arith, le)) (λ j lt. h (suc j) (omega (arith, lt)))) refl

-- where it exists, there is no other of them outside
inside_at : (fields : List MatchField) (priority : ℕ) (es : List Entry) (k : ℕ) (d : Entry) → are_unlike (map entry_key (flows_of es)) ≡ true → position (λ e. is_same_row fields priority (classifier_row e)) es ≡ Some k →
    Outside (λ e. is_same_row fields priority (classifier_row e)) es k (k + 1)
inside_at fields priority es k d unlike h =
    let key : Key = record { priority = priority; fields = fields } in
    let s = position-Some (λ e. is_same_row fields priority (classifier_row e)) es k d h in
    record {
      order = omega arith;
      within = omega (arith, s.0);
      before = none_before (λ e. is_same_row fields priority (classifier_row e)) es k d (omega (arith, s.0)) s.2;
      behind = rw add-one (none_behind key es k d unlike s.0 s.1);
    }

pub one_inside : (fields : List MatchField) (priority : ℕ) (es : List Entry) (k : ℕ) → are_unlike (map entry_key (flows_of es)) ≡ true → position (λ e. is_same_row fields priority (classifier_row e)) es ≡ Some k →
    Outside (λ e. is_same_row fields priority (classifier_row e)) es k (k + 1)
one_inside fields priority [] k unlike h = absurd cc
one_inside fields priority (e ∷ es) k unlike h = inside_at fields priority (e ∷ es) k e unlike h

-- a strict command selects that entry alone
pub meant_inside : (w : Selector) (priority : ℕ) (es : List Entry) (k : ℕ) → w.priority ≡ Some priority → are_unlike (map entry_key (flows_of es)) ≡ true → position (λ e. is_same_row w.fields priority (classifier_row e)) es ≡ Some k →
    Outside (λ e. is_meant w (entry_of e)) es k (k + 1)
meant_inside w priority es k is unlike h = subst (λ (o : Option ℕ). Outside (λ e. is_meant_by o w (entry_of e)) es k (k + 1)) (sym is) (one_inside w.fields priority es k unlike h)

pub meant_nowhere : (w : Selector) (priority : ℕ) (es : List Entry) → w.priority ≡ Some priority → position (λ e. is_same_row w.fields priority (classifier_row e)) es ≡ None → Outside (λ e. is_meant w (entry_of e)) es 0 0
meant_nowhere w priority es is h =
    subst (λ (o : Option ℕ). Outside (λ e. is_meant_by o w (entry_of e)) es 0 0) (sym is) (none_inside (λ e. is_same_row w.fields priority (classifier_row e)) es (position_none (λ e. is_same_row w.fields priority (classifier_row e)) es h))

-- ---- what a span has is what all have

-- the copies that a MODIFY needs
none_wanted : (w : Selector) (es : List Entry) → list_any (λ e. is_meant w (entry_of e)) es ≡ false → wanted w es ≡ 0
none_wanted w es h = count_none (is_modified w) es (none_less (λ e. is_meant w (entry_of e)) (is_modified w) (λ e n. rw n refl) es h)
  where
    count_none : (p : Entry → Bool) (xs : List Entry) → list_any p xs ≡ false → count_by p xs ≡ 0
    count_none p [] g = refl
    count_none p (x ∷ xs) g =
        let first : p x ≡ false = none_first (p x) (list_any p xs) g in
        sum_by-cons (λ y. cond (p y) 1 0) x xs ∙ rw (first, count_none p xs (none_second (p x) (list_any p xs) g)) refl

pub wanted_inside : (w : Selector) (es : List Entry) (a b : ℕ) → Outside (λ e. is_meant w (entry_of e)) es a b → wanted w (slice_range es a b) ≡ wanted w es
wanted_inside w es a b o =
    let f : Entry → ℕ = (λ (e : Entry). cond (is_modified w e) 1 0) in
    let parts : wanted w es ≡ wanted w (take a es) + (wanted w (slice_range es a b) + wanted w (drop b es)) =
    ap (wanted w) (in_parts es a b o.order) ∙ sum_by-append f (take a es) (slice_range es a b ++ drop b es) ∙ ap (λ (n : ℕ). wanted w (take a es) + n) (sum_by-append f (slice_range es a b) (drop b es)) in
    omega (arith, parts, none_wanted w (take a es) o.before, none_wanted w (drop b es) o.behind)

pub wanted_none_before : (w : Selector) (es : List Entry) (a b : ℕ) → Outside (λ e. is_meant w (entry_of e)) es a b → wanted w (take a es) ≡ 0
wanted_none_before w es a b o = none_wanted w (take a es) o.before

pub wanted_to_end : (w : Selector) (es : List Entry) (a b n : ℕ) → Outside (λ e. is_meant w (entry_of e)) es a b → b ≤ n → n ≤ b → wanted w (take n es) ≡ wanted w es
wanted_to_end w es a b n o le ge =
    let f : Entry → ℕ = (λ (e : Entry). cond (is_modified w e) 1 0) in
    let same : n ≡ b = omega (arith, le, ge) in
    let parts : wanted w es ≡ wanted w (take b es) + wanted w (drop b es) = sym (sum_by-take-drop f es b) in
    rw same (omega (arith, parts, none_wanted w (drop b es) o.behind))

pub copies_inside : {A E : Type 0} (r : Result A E) (w : Selector) (k : ℕ) (t : Numbered) (es : List Entry) (a b : ℕ) (before after : Supply) → is_in w.table k ≡ true → es ≡ t.entries → Outside (λ e. is_meant w (entry_of e)) t.entries a b →
    OnOk r (after ≡ record before { count = before.count + wanted w (slice_range es a b) }) → OnOk r (after ≡ record before { count = before.count + wanted_in w k t })
copies_inside (Ok x) w k t es a b before after for same o made =
    let all : wanted w (slice_range es a b) ≡ wanted_in w k t = ap (λ (xs : List Entry). wanted w (slice_range xs a b)) same ∙ wanted_inside w t.entries a b o ∙ rw for refl in
    made ∙ ap (λ (n : ℕ). record before { count = before.count + n }) all
copies_inside (Err e) w k t es a b before after for same o made = made

-- entries that a MODIFY does not select stay as they are
same_entries : (w : Selector) (is : List Instruction) (reset : Bool) (es : List Entry) → list_any (λ e. is_meant w (entry_of e)) es ≡ false → modified_entries w is reset es ≡ es
same_entries w is reset [] h = refl
same_entries w is reset (e ∷ es) h =
    let unmeant : modifies w (entry_of e) ≡ false = rw (none_first (is_meant w (entry_of e)) (list_any (λ x. is_meant w (entry_of x)) es) h) refl in
    let first : on_entry (modified_by w is reset) e ≡ e = rw unmeant refl in
    λ i. first i ∷ same_entries w is reset es (none_second (is_meant w (entry_of e)) (list_any (λ x. is_meant w (entry_of x)) es) h) i

pub same_before : (w : Selector) (is : List Instruction) (reset : Bool) (es : List Entry) (a b : ℕ) → Outside (λ e. is_meant w (entry_of e)) es a b → es ≡ changed_to (on_entry (modified_by w is reset)) a es
same_before w is reset es a b o = sym (ap (λ (xs : List Entry). xs ++ drop a es) (same_entries w is reset (take a es) o.before) ∙ take-append-drop a es)

pub same_behind : (w : Selector) (is : List Instruction) (reset : Bool) (es : List Entry) (a b n : ℕ) → Outside (λ e. is_meant w (entry_of e)) es a b → b ≤ n → n ≤ b → changed_to (on_entry (modified_by w is reset)) n es ≡ modified_entries w is reset es
same_behind w is reset es a b n o le ge =
    let same : n ≡ b = omega (arith, le, ge) in
    let f = on_entry (modified_by w is reset) in
    rw same
    (ap (λ (xs : List Entry). map f (take b es) ++ xs) (sym (same_entries w is reset (drop b es) o.behind))
    ∙ sym (map-append f (take b es) (drop b es)) ∙ ap (map f) (take-append-drop b es))

-- ---- what may be removed

unmeant_stays : (w : Selector) (e : FlowEntry) → is_meant w e ≡ false → not (stays (Delete w) e) ≡ false
unmeant_stays w e h =
    let unselected : selects w e ≡ false = rw h refl in
    rw unselected refl

-- none is removed but that a DELETE selects by its match
pub going_inside : (w : Selector) (cause : Cause) (es : List Entry) (a b : ℕ) → cause ≡ Delete w → Outside (λ e. is_meant w (entry_of e)) es a b → Outside (λ e. not (stays cause (entry_of e))) es a b
going_inside w cause es a b is o =
    subst (λ (c : Cause). Outside (λ e. not (stays c (entry_of e))) es a b) (sym is) (outside_less (λ e. is_meant w (entry_of e)) (λ e. not (stays (Delete w) (entry_of e))) es a b (λ e h. unmeant_stays w (entry_of e) h) o)

all_from_none : {X : Type 0} (s : X → Bool) (xs : List X) → list_any (λ x. not (s x)) xs ≡ false → list_all s xs ≡ true
all_from_none s [] h = refl
all_from_none s (x ∷ xs) h = by_test (s x) h (all_from_none s xs)
  where
    by_test : (b : Bool) → (not b || list_any (λ y. not (s y)) xs) ≡ false → (list_any (λ y. not (s y)) xs ≡ false → list_all s xs ≡ true) → (b && list_all s xs) ≡ true
    by_test true g ih = ih g
    by_test false g ih = absurd cc

none_from_all : {X : Type 0} (s : X → Bool) (xs : List X) → list_all s xs ≡ true → list_any (λ x. not (s x)) xs ≡ false
none_from_all s [] h = refl
none_from_all s (x ∷ xs) h = by_test (s x) h (none_from_all s xs)
  where
    by_test : (b : Bool) → (b && list_all s xs) ≡ true → (list_all s xs ≡ true → list_any (λ y. not (s y)) xs ≡ false) → (not b || list_any (λ y. not (s y)) xs) ≡ false
    by_test true g ih = ih g
    by_test false g ih = absurd cc

-- where all stay
pub none_going : (cause : Cause) (es : List Entry) → all_stay cause es ≡ true → Outside (λ e. not (stays cause (entry_of e))) es 0 0
none_going cause es h = none_inside (λ e. not (stays cause (entry_of e))) es (none_from_all (λ e. stays cause (entry_of e)) es h)

pub told_inside : (cause : Cause) (table : ℕ) (es : List Entry) (a b : ℕ) → Outside (λ e. not (stays cause (entry_of e))) es a b → numbered_notices cause table (slice_range es a b) ≡ numbered_notices cause table es
told_inside cause table es a b o =
    let f = λ (e : Entry). option_to_list (told_by table e (reason_of cause (entry_of e))) in
    let before : numbered_notices cause table (take a es) ≡ [] = none_told cause table (take a es) (all_from_none (λ e. stays cause (entry_of e)) (take a es) o.before) in
    let behind : numbered_notices cause table (drop b es) ≡ [] = none_told cause table (drop b es) (all_from_none (λ e. stays cause (entry_of e)) (drop b es) o.behind) in
    sym (
    ap (numbered_notices cause table) (in_parts es a b o.order) ∙ flat_map-append f (take a es) (slice_range es a b ++ drop b es)
    ∙ (λ i. before i ++ flat_map-append f (slice_range es a b) (drop b es) i)
    ∙ ap (λ (ts : List NumberedNotice). numbered_notices cause table (slice_range es a b) ++ ts) behind
    ∙ append-nil (numbered_notices cause table (slice_range es a b))
    )

pub told_by_span : {A E : Type 0} (r : Result A E) (cause : Cause) (k : ℕ) (t : Numbered) (es : List Entry) (a b : ℕ) (before after : List NumberedNotice) → concerns cause k ≡ true → es ≡ t.entries → Outside (λ e. not (stays cause (entry_of e))) t.entries a b →
    OnOk r (after ≡ before ++ numbered_notices cause k (slice_range es a b)) → OnOk r (after ≡ before ++ told_table cause k t)
told_by_span (Ok x) cause k t es a b before after for same o made =
    let all : numbered_notices cause k (slice_range es a b) ≡ told_table cause k t = ap (λ (xs : List Entry). numbered_notices cause k (slice_range xs a b)) same ∙ told_inside cause k t.entries a b o ∙ rw for refl in
    made ∙ ap (λ (ts : List NumberedNotice). before ++ ts) all
told_by_span (Err e) cause k t es a b before after for same o made = made

-- nothing is removed from an empty span
pub kept_empty : (cause : Cause) (es : List Entry) (a b : ℕ) → a ≡ b → Outside (λ e. not (stays cause (entry_of e))) es a b → kept_of cause es ≡ es
kept_empty cause es a b is o =
    let s = λ (e : Entry). stays cause (entry_of e) in
    let front : kept_of cause (take a es) ≡ take a es = all_kept cause (take a es) (all_from_none s (take a es) o.before) in
    let rest : kept_of cause (drop b es) ≡ drop b es = all_kept cause (drop b es) (all_from_none s (drop b es) o.behind) in
    let same : drop a es ≡ drop b es = ap (λ (n : ℕ). drop n es) is in
    ap (kept_of cause) (sym (take-append-drop a es)) ∙ filter-append s (take a es) (drop a es)
    ∙ (λ i. front i ++ (ap (kept_of cause) same ∙ rest ∙ sym same) i) ∙ take-append-drop a es

pub kept_same : (cause : Cause) (k : ℕ) (t : Numbered) (a b : ℕ) → concerns cause k ≡ true → a ≡ b → Outside (λ e. not (stays cause (entry_of e))) t.entries a b → t ≡ kept_table cause k t
kept_same cause k t a b for is o = rw for (ap (λ (es : List Entry). record t { entries = es }) (sym (kept_empty cause t.entries a b is o)))

one_split : (cause : Cause) (es : List Entry) (k : ℕ) (d : Entry) → Outside (λ e. not (stays cause (entry_of e))) es k (k + 1) → kept_of cause es ≡ take k es ++ cond (stays cause (entry_of (get_or es k d))) (get_or es k d ∷ drop (k + 1) es) (drop (k + 1) es)
one_split cause es k d o =
    let s = λ (e : Entry). stays cause (entry_of e) in
    let front : kept_of cause (take k es) ≡ take k es = all_kept cause (take k es) (all_from_none s (take k es) o.before) in
    let rest : kept_of cause (drop (k + 1) es) ≡ drop (k + 1) es = all_kept cause (drop (k + 1) es) (all_from_none s (drop (k + 1) es) o.behind) in
    let next : drop k es ≡ get_or es k d ∷ drop (k + 1) es = drop_more es k d (omega (arith, o.within)) in
    ap (kept_of cause) (sym (take-append-drop k es)) ∙ filter-append s (take k es) (drop k es)
    ∙ (λ i. front i ++ kept_of cause (next i))
    ∙ ap (λ (xs : List Entry). take k es ++ cond (s (get_or es k d)) (get_or es k d ∷ xs) xs) rest

-- of a span of one, that one stays or is removed
pub one_stays : (cause : Cause) (es : List Entry) (k : ℕ) (d : Entry) → Outside (λ e. not (stays cause (entry_of e))) es k (k + 1) → stays cause (entry_of (get_or es k d)) ≡ true → kept_of cause es ≡ es
one_stays cause es k d o is =
    let next : drop k es ≡ get_or es k d ∷ drop (k + 1) es = drop_more es k d (omega (arith, o.within)) in
    one_split cause es k d o ∙ rw is refl ∙ ap (λ (xs : List Entry). take k es ++ xs) (sym next) ∙ take-append-drop k es

pub one_goes : (cause : Cause) (es : List Entry) (k : ℕ) (d : Entry) → Outside (λ e. not (stays cause (entry_of e))) es k (k + 1) → stays cause (entry_of (get_or es k d)) ≡ false → kept_of cause es ≡ remove es k
one_goes cause es k d o is = one_split cause es k d o ∙ rw (is, add-one k) refl
