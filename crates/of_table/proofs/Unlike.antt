-- No two entries have the same priority and match, also after one more is added or some are removed.
use Rattle.std.proofs.Common.{◌≡◌, ℕ, suc, ◌+◌, ◌<◌, ◌≤◌, Bool, true, false, not, cond, ◌&&◌, ◌||◌, List, [], ◌∷◌, ◌++◌, Option, Some, None, length, refl, sym, ap, subst, ◌∙◌, arith}
use Rattle.std.specs.Prelude.{filter, map, find, nat_le, position, remove}
use Rattle.std.{specs.List.list_any, specs.Option.option_map, proofs.lemmas.Bool.eq-eqb, proofs.lemmas.Bool.Decides.nat_tests, proofs.lemmas.List.map-append, proofs.lemmas.List.length-append}
use Rattle.std.proofs.lemmas.List.Folds.{list_any-append}
use Rattle.of_oxm.specs.SameMatch.{is_same_match}
use Rattle.of_table.specs.Table.{FlowEntry, is_same, is_full, is_overlapped, add_flow_fault, with_flow, added}
use Rattle.of_table.specs.{declared.flow.Flow.Flow, declared.entry.Entry.Entry, declared.table_fault.TableFault.TheVariants.Overlap, declared.table_fault.TableFault.TheVariants.Full}
use Rattle.of_table.specs.{declared.selection.Cause.Cause, Selecting.stays, Selecting.kept_of, Entries.entry_of, Entries.flows_of, Entries.rows_of, Entries.added_entries}
use Rattle.of_table.{specs.Sound.Key, specs.Sound.entry_key, specs.Sound.is_same_key, specs.Sound.are_unlike, proofs.AddLemmas.same_is, proofs.AddLemmas.is_itself, proofs.AddLemmas.flows_added}
use Rattle.of_table.proofs.{RemoveLemmas.flows_left, PlaceLemmas.any-map, PlaceLemmas.filter_others, PlaceLemmas.position-first, PlaceLemmas.position-later}
use Rattle.of_classifier.specs.declared.Row.{Row}

-- ---- keys

pub same_key : (k l : Key) → is_same_key k l ≡ true → l ≡ k
same_key k l h =
    let priority : l.priority ≡ k.priority = grind (arith, nat_tests, h) in
    let test : is_same_match l.fields k.fields ≡ true = grind (arith, nat_tests, h) in
    let fields = same_is l.fields k.fields test in
    λ j. record { priority = priority j; fields = fields j }

key_itself : (k : Key) → is_same_key k k ≡ true
key_itself k = rw (eq-eqb k.priority k.priority refl, is_itself k.fields) refl

turned_key : (k l : Key) → is_same_key k l ≡ false → is_same_key l k ≡ false
turned_key k l h = split (is_same_key l k) refl
  where
    split : (b : Bool) → is_same_key l k ≡ b → b ≡ false
    split true e =
        let same : k ≡ l = same_key l k e in
        let here : is_same_key k l ≡ true = subst (λ (x : Key). is_same_key k x ≡ true) same (key_itself k) in
        let never : true ≡ false = sym here ∙ h in
        absurd cc
    split false e = refl

abbrev flow_key : Flow → Key
flow_key flow = record { priority = flow.priority; fields = flow.fields }

-- ---- all that do not pass

pub none_first : (b c : Bool) → (b || c) ≡ false → b ≡ false
none_first true c h = h
none_first false c h = refl

pub none_second : (b c : Bool) → (b || c) ≡ false → c ≡ false
none_second true c h = absurd cc
none_second false c h = h

none_passes : {X : Type 0} (p : X → Bool) (xs : List X) → list_any p (filter (λ x. not (p x)) xs) ≡ false
none_passes p [] = refl
none_passes p (x ∷ xs) = split (p x) refl (none_passes p xs)
  where
    split : (b : Bool) → p x ≡ b → list_any p (filter (λ y. not (p y)) xs) ≡ false → list_any p (cond (not b) (x ∷ filter (λ y. not (p y)) xs) (filter (λ y. not (p y)) xs)) ≡ false
    split true is ih = ih
    split false is ih = rw (is, ih) refl

-- ---- entries

both : (b c : Bool) → (not b && c) ≡ true → (b ≡ false) × (c ≡ true)
both true c h = absurd cc
both false c h = (refl, h)

both_from : (b c : Bool) → b ≡ false → c ≡ true → (not b && c) ≡ true
both_from b c f g = rw (f, g) refl

unlike_by : (e : FlowEntry) (flows : List FlowEntry) → list_any (λ f. is_same_key (entry_key e) (entry_key f)) flows ≡ false → are_unlike (map entry_key flows) ≡ true → are_unlike (map entry_key (e ∷ flows)) ≡ true
unlike_by e flows none h = both_from _ _ (any-map entry_key (is_same_key (entry_key e)) flows ∙ none) h

pub unlike_parts : (e : FlowEntry) (flows : List FlowEntry) → are_unlike (map entry_key (e ∷ flows)) ≡ true → (list_any (λ f. is_same_key (entry_key e) (entry_key f)) flows ≡ false) × (are_unlike (map entry_key flows) ≡ true)
unlike_parts e flows h =
    let p = both (list_any (is_same_key (entry_key e)) (map entry_key flows)) (are_unlike (map entry_key flows)) h in
    (sym (any-map entry_key (is_same_key (entry_key e)) flows) ∙ p.0, p.1)

-- but for the one entry of the flow's priority and match, none is of them
pub others_left : (flow : Flow) (es : List Entry) (k : ℕ) → are_unlike (map entry_key (flows_of es)) ≡ true → position (λ e. is_same flow (entry_of e)) es ≡ Some k → remove es k ≡ filter (λ e. not (is_same flow (entry_of e))) es
others_left flow [] k unlike h = absurd cc
others_left flow (e ∷ es) k unlike h =
    let parts = unlike_parts (entry_of e) (flows_of es) unlike in
    split (is_same flow (entry_of e)) refl parts.0 (λ j. others_left flow es j parts.1)
  where
    by_rest : (o : Option ℕ) → position (λ x. is_same flow (entry_of x)) es ≡ o → option_map (λ n. n + 1) o ≡ Some k → ((j : ℕ) → position (λ x. is_same flow (entry_of x)) es ≡ Some j → remove es j ≡ filter (λ x. not (is_same flow (entry_of x))) es) →
        remove (e ∷ es) k ≡ e ∷ filter (λ x. not (is_same flow (entry_of x))) es
    by_rest None is g ih = absurd cc
    by_rest (Some j) is g ih =
        let next : suc j ≡ k = (let n : j + 1 ≡ k = cc in omega arith) in
        subst (λ (n : ℕ). remove (e ∷ es) n ≡ e ∷ filter (λ x. not (is_same flow (entry_of x))) es) next (ap (λ (xs : List Entry). e ∷ xs) (ih j is))

    split : (b : Bool) → is_same flow (entry_of e) ≡ b → list_any (λ f. is_same_key (entry_key (entry_of e)) (entry_key f)) (flows_of es) ≡ false → ((j : ℕ) → position (λ x. is_same flow (entry_of x)) es ≡ Some j → remove es j ≡ filter (λ x. not (is_same flow (entry_of x))) es) →
        remove (e ∷ es) k ≡ filter (λ x. not (is_same flow (entry_of x))) (e ∷ es)
    split true is none ih =
        let first : 0 ≡ k = (let g = sym (position-first (λ x. is_same flow (entry_of x)) e es is) ∙ h in cc) in
        let same : entry_key (entry_of e) ≡ flow_key flow = same_key (flow_key flow) (entry_key (entry_of e)) is in
        let apart : list_any (is_same flow) (flows_of es) ≡ false = subst (λ (l : Key). list_any (λ f. is_same_key l (entry_key f)) (flows_of es) ≡ false) same none in
        let others : filter (λ x. not (is_same flow (entry_of x))) es ≡ es = filter_others (λ x. is_same flow (entry_of x)) es (sym (any-map entry_of (is_same flow) es) ∙ apart) in
        subst (λ (n : ℕ). remove (e ∷ es) n ≡ filter (λ x. not (is_same flow (entry_of x))) (e ∷ es)) first (rw (is, others) refl)
    split false is none ih = rw is (by_rest (position (λ x. is_same flow (entry_of x)) es) refl (sym (position-later (λ x. is_same flow (entry_of x)) e es is) ∙ h) ih)

unlike_last : (ks : List Key) (k : Key) → are_unlike ks ≡ true → list_any (is_same_key k) ks ≡ false → are_unlike (ks ++ k ∷ []) ≡ true
unlike_last [] k h none = refl
unlike_last (l ∷ ls) k h none =
    let parts = both (list_any (is_same_key l) ls) (are_unlike ls) h in
    let apart : is_same_key l k ≡ false = turned_key k l (none_first (is_same_key k l) (list_any (is_same_key k) ls) none) in
    both_from _ _ (list_any-append (is_same_key l) ls (k ∷ []) ∙ rw (parts.0, apart) refl) (unlike_last ls k parts.1 (none_second (is_same_key k l) (list_any (is_same_key k) ls) none))

with_flow_key : (now : ℕ) (flow : Flow) (old : Option FlowEntry) → entry_key (with_flow now flow old) ≡ flow_key flow
with_flow_key now flow None = refl
with_flow_key now flow (Some e) = refl

any_filter : {X : Type 0} (p q : X → Bool) (xs : List X) → list_any q xs ≡ false → list_any q (filter p xs) ≡ false
any_filter p q [] h = refl
any_filter p q (x ∷ xs) h = split (p x) (any_filter p q xs (none_second (q x) (list_any q xs) h))
  where
    split : (b : Bool) → list_any q (filter p xs) ≡ false → list_any q (cond b (x ∷ filter p xs) (filter p xs)) ≡ false
    split true ih = rw (none_first (q x) (list_any q xs) h, ih) refl
    split false ih = ih

pub unlike_filter : (p : FlowEntry → Bool) (flows : List FlowEntry) → are_unlike (map entry_key flows) ≡ true → are_unlike (map entry_key (filter p flows)) ≡ true
unlike_filter p [] h = refl
unlike_filter p (e ∷ es) h =
    let parts = unlike_parts e es h in
    split (p e) (any_filter p (λ f. is_same_key (entry_key e) (entry_key f)) es parts.0) (unlike_filter p es parts.1)
  where
    split : (b : Bool) → list_any (λ f. is_same_key (entry_key e) (entry_key f)) (filter p es) ≡ false → are_unlike (map entry_key (filter p es)) ≡ true → are_unlike (map entry_key (cond b (e ∷ filter p es) (filter p es))) ≡ true
    split true none ih = unlike_by e (filter p es) none ih
    split false none ih = ih

pub unlike_added : (now : ℕ) (flow : Flow) (flows : List FlowEntry) → are_unlike (map entry_key flows) ≡ true → are_unlike (map entry_key (added now flow flows)) ≡ true
unlike_added now flow flows h =
    let rest = filter (λ e. not (is_same flow e)) flows in
    let new = with_flow now flow (find (is_same flow) flows) in
    let last : entry_key new ≡ flow_key flow = with_flow_key now flow (find (is_same flow) flows) in
    let parts : map entry_key (rest ++ new ∷ []) ≡ map entry_key rest ++ flow_key flow ∷ [] = map-append entry_key rest (new ∷ []) ∙ ap (λ (k : Key). map entry_key rest ++ k ∷ []) last in
    let none : list_any (is_same_key (flow_key flow)) (map entry_key rest) ≡ false = any-map entry_key (is_same_key (flow_key flow)) rest ∙ none_passes (is_same flow) flows in
    ap are_unlike parts ∙ unlike_last (map entry_key rest) (flow_key flow) (unlike_filter (λ e. not (is_same flow e)) flows h) none

pub filter_fewer : {X : Type 0} (p : X → Bool) (xs : List X) → length (filter p xs) ≤ length xs
filter_fewer p [] = omega arith
filter_fewer p (x ∷ xs) = split (p x) (filter_fewer p xs)
  where
    split : (b : Bool) → length (filter p xs) ≤ length xs → length (cond b (x ∷ filter p xs) (filter p xs)) ≤ suc (length xs)
    split true ih = omega (arith, ih)
    split false ih = omega (arith, ih)

filter_one_fewer : {X : Type 0} (p : X → Bool) (xs : List X) → list_any p xs ≡ true → suc (length (filter (λ x. not (p x)) xs)) ≤ length xs
filter_one_fewer p [] h = absurd cc
filter_one_fewer p (x ∷ xs) h = split (p x) h (filter_one_fewer p xs)
  where
    split : (b : Bool) → (b || list_any p xs) ≡ true → (list_any p xs ≡ true → suc (length (filter (λ y. not (p y)) xs)) ≤ length xs) → suc (length (cond (not b) (x ∷ filter (λ y. not (p y)) xs) (filter (λ y. not (p y)) xs))) ≤ suc (length xs)
    split true some ih = let fewer = filter_fewer (λ y. not (p y)) xs in omega (arith, fewer)
    split false some ih = let fewer = ih some in omega (arith, fewer)

-- ---- entries by what the classifier knows of them, and as they come and go

abbrev row_key : Row → Key
row_key r = record { priority = r.priority; fields = r.fields }

row_keys : (es : List Entry) → map entry_key (flows_of es) ≡ map row_key (rows_of es)
row_keys [] = refl
row_keys (e ∷ es) = ap (λ (ks : List Key). entry_key (entry_of e) ∷ ks) (row_keys es)

pub unlike_rows : (es zs : List Entry) → rows_of zs ≡ rows_of es → are_unlike (map entry_key (flows_of es)) ≡ true → are_unlike (map entry_key (flows_of zs)) ≡ true
unlike_rows es zs same h = ap are_unlike (row_keys zs ∙ ap (map row_key) same ∙ sym (row_keys es)) ∙ h

pub unlike_kept : (cause : Cause) (es zs : List Entry) → zs ≡ kept_of cause es → are_unlike (map entry_key (flows_of es)) ≡ true → are_unlike (map entry_key (flows_of zs)) ≡ true
unlike_kept cause es zs is h = ap (λ (xs : List Entry). are_unlike (map entry_key (flows_of xs))) is ∙ ap (λ (fs : List FlowEntry). are_unlike (map entry_key fs)) (flows_left cause es) ∙ unlike_filter (stays cause) (flows_of es) h

pub unlike_with : (number now : ℕ) (flow : Flow) (es zs : List Entry) → zs ≡ added_entries number now flow es → are_unlike (map entry_key (flows_of es)) ≡ true → are_unlike (map entry_key (flows_of zs)) ≡ true
unlike_with number now flow es zs is h = ap (λ (xs : List Entry). are_unlike (map entry_key (flows_of xs))) is ∙ ap (λ (fs : List FlowEntry). are_unlike (map entry_key fs)) (flows_added number now flow es) ∙ unlike_added now flow (flows_of es) h

-- ---- how many there are

not_full : (o f : Bool) → None ≡ cond o (Some Overlap) (cond f (Some Full) None) → f ≡ false
not_full true f h = absurd cc
not_full false true h = absurd cc
not_full false false h = refl

pub few_added : (now : ℕ) (flow : Flow) (flows : List FlowEntry) → None ≡ add_flow_fault flow flows → length flows ≤ 4096 → length (added now flow flows) ≤ 4096
few_added now flow flows fault few =
    let rest = filter (λ e. not (is_same flow e)) flows in
    let new = with_flow now flow (find (is_same flow) flows) in
    let one_more : length (rest ++ new ∷ []) ≡ length rest + 1 = length-append rest (new ∷ []) in
    rw one_more (split (list_any (is_same flow) flows) refl (not_full (is_overlapped flow flows) (is_full flow flows) fault))
  where
    split : (b : Bool) → list_any (is_same flow) flows ≡ b → (not b && nat_le 4096 (length flows)) ≡ false → length (filter (λ e. not (is_same flow e)) flows) + 1 ≤ 4096
    split true some full = omega (arith, few, filter_one_fewer (is_same flow) flows some)
    split false none full =
        let short : length flows < 4096 = grind (arith, nat_tests, full) in
        omega (arith, short, filter_fewer (λ e. not (is_same flow e)) flows)
