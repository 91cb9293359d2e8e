-- The kinds of actions that some bytes encode: 30 ranks.
use Rattle.std.proofs.Common.{◌≡◌, ℕ, ◌≤◌, ◌<◌, ◌+◌, ◌++◌, Bool, true, false, not, cond, eqb, ltb, List, [], ◌∷◌, length, refl, sym, arith}
use Rattle.std.specs.Prelude.{filter, find, map, Option, None}
use Rattle.std.{specs.List.list_all, proofs.lemmas.Bool.Decides.nat_tests, proofs.lemmas.Bool.Decides.eqb_tells, proofs.lemmas.List.append-nil, proofs.lemmas.List.Edits.length-insert}
use Rattle.of_layers.specs.{declared.field.Field.Field, declared.field.Field.TheVariants.InPort, Fields.number_of, Fields.is_settable, Fields.row_of, Fields.all_fields}
use Rattle.of_layers.proofs.Table.{number_below}
use Rattle.of_actions.specs.{declared.action.Action.Action, declared.action.Action.TheVariants.SetField, Supported.is_supported, Rising.is_ascending}
use Rattle.of_action_set.proofs.Ranked.{is_in, at_most, below, but, put, rising_put, all_put, insert_is_put, length-filter_le}
use Rattle.of_action_set.specs.Sets.{rank, is_output}

-- tags and TTL, the fields that may be set, GROUP and OUTPUT
abbrev pub ranks : List ℕ
ranks = 0 ∷ 1 ∷ 2 ∷ 3 ∷ map (λ f. 4 + number_of f) (filter is_settable all_fields) ++ 40 ∷ 41 ∷ []

settable_in : (f : Field) → is_settable f ≡ true → is_in (4 + number_of f) ranks ≡ true
unfolding row_of
settable_in f = elim f as (λ f. is_settable f ≡ true → is_in (4 + number_of f) ranks ≡ true) [ InPort ↦ λ h. absurd cc | _ ↦ λ h. cc ]

served_in : (a : Action) → is_supported false a ≡ true → is_in (rank a) ranks ≡ true
unfolding is_supported row_of
served_in (SetField field value) h = settable_in field (grind (arith, nat_tests))
served_in other h = refl

all_in : (s : List Action) → list_all (is_supported false) s ≡ true → list_all (λ a. is_in (rank a) ranks) s ≡ true
all_in [] h = refl
all_in (a ∷ s) h =
    let one : is_supported false a ≡ true = grind (arith, nat_tests) in
    let others : list_all (is_supported false) s ≡ true = grind (arith, nat_tests) in
    rw (served_in a one, all_in s others) refl

-- a set has at most 30 actions
pub few : (s : List Action) → is_ascending rank s ≡ true → list_all (is_supported false) s ≡ true → length s ≤ 30
unfolding row_of
few s rising served = at_most rank ranks s refl rising (all_in s served)

-- ---- OUTPUT ranks highest

field_below : (f : Field) → eqb (4 + number_of f) 41 ≡ false
field_below f = grind (arith, nat_tests, number_below f)

pub rank_of_output : (a : Action) → eqb (rank a) 41 ≡ is_output a
rank_of_output (SetField field value) = field_below field
rank_of_output other = refl

pub rank_most : (a : Action) → rank a ≤ 41
rank_most (SetField field value) = omega (arith, number_below field)
rank_most other = omega arith

last_passes : (p : Action → Bool) (s : List Action) (x : Action) → list_all p (s ++ x ∷ []) ≡ true → p x ≡ true
last_passes p [] x h = grind (arith, nat_tests)
last_passes p (a ∷ s) x h = last_passes p s x (grind (arith, nat_tests))

-- what ranks below another action is no OUTPUT
lower_no_output : (b x : Action) → ltb (rank b) (rank x) ≡ true → is_output b ≡ false
lower_no_output b x lt = grind (arith, nat_tests, rank_of_output b, rank_most x, eqb_tells (rank b) 41)

-- no OUTPUT stands before the last
pub before_output : (s : List Action) (x : Action) → is_ascending rank (s ++ x ∷ []) ≡ true → filter (λ a. not (is_output a)) s ≡ s
before_output [] x h = refl
before_output (b ∷ s) x h =
    let above : list_all (λ y. ltb (rank b) (rank y)) (s ++ x ∷ []) ≡ true = grind (arith, nat_tests) in
    let rest : is_ascending rank (s ++ x ∷ []) ≡ true = grind (arith, nat_tests) in
    rw (lower_no_output b x (last_passes (λ y. ltb (rank b) (rank y)) s x above), before_output s x rest) refl

filter_append : (p : Action → Bool) (s t : List Action) → filter p (s ++ t) ≡ filter p s ++ filter p t
filter_append p [] t = refl
filter_append p (a ∷ s) t = grind (arith, filter_append p s t)

pub only_last : (s : List Action) (x : Action) → is_ascending rank (s ++ x ∷ []) ≡ true → is_output x ≡ true → filter (λ a. not (is_output a)) (s ++ x ∷ []) ≡ s
only_last s x h is = rw (filter_append (λ a. not (is_output a)) s (x ∷ []), before_output s x h, is) (append-nil s)

pub none_but_last : (s : List Action) (x : Action) → is_ascending rank (s ++ x ∷ []) ≡ true → is_output x ≡ false → filter (λ a. not (is_output a)) (s ++ x ∷ []) ≡ s ++ x ∷ []
none_but_last s x h is = rw (filter_append (λ a. not (is_output a)) s (x ∷ []), before_output s x h, is) refl

not_output_by : (kind : ℕ) (a : Action) (s : List Action) (is same : Bool) → is_output a ≡ is → eqb (rank a) kind ≡ same
    → find (λ a. eqb (rank a) kind) (filter (λ a. not (is_output a)) s) ≡ cond (eqb kind 41) None (find (λ a. eqb (rank a) kind) s)
    → find (λ a. eqb (rank a) kind) (filter (λ a. not (is_output a)) (a ∷ s)) ≡ cond (eqb kind 41) None (find (λ a. eqb (rank a) kind) (a ∷ s))
not_output_by kind a s true true is_is same_is again =
    let last : eqb kind 41 ≡ true = grind (arith, nat_tests, rank_of_output a, eqb_tells (rank a) kind, eqb_tells (rank a) 41, eqb_tells kind 41) in
    let rest : find (λ a. eqb (rank a) kind) (filter (λ a. not (is_output a)) s) ≡ None = rw last at again in
    rw (is_is, last) rest
not_output_by kind a s true false is_is same_is again = rw (is_is, same_is) again
not_output_by kind a s false true is_is same_is again =
    let other : eqb kind 41 ≡ false = grind (arith, nat_tests, rank_of_output a, eqb_tells (rank a) kind, eqb_tells (rank a) 41, eqb_tells kind 41) in
    rw (is_is, same_is, other) refl
not_output_by kind a s false false is_is same_is again = rw (is_is, same_is) again

none_both : (b : Bool) → cond {A = Option Action} b None None ≡ None
none_both true = refl
none_both false = refl

pub find_not_output : (kind : ℕ) (s : List Action) → find (λ a. eqb (rank a) kind) (filter (λ a. not (is_output a)) s) ≡ cond (eqb kind 41) None (find (λ a. eqb (rank a) kind) s)
find_not_output kind [] = sym (none_both (eqb kind 41))
find_not_output kind (a ∷ s) = not_output_by kind a s (is_output a) (eqb (rank a) kind) refl refl (find_not_output kind s)

-- ---- one more action

pub put_few : (a : Action) (s : List Action) → is_ascending rank s ≡ true → list_all (is_supported false) s ≡ true → is_supported false a ≡ true → length (but rank (rank a) s) < 30
put_few a s rising served is =
    let most : length (put rank a s) ≤ 30 = few (put rank a s) (rising_put rank a s rising) (all_put rank (is_supported false) a s is served) in
    let fits = length-filter_le (λ b. ltb (rank b) (rank a)) (but rank (rank a) s) in
    let more = length-insert (but rank (rank a) s) (length (below rank (rank a) (but rank (rank a) s))) a fits in
    let same : length (put rank a s) ≡ length (but rank (rank a) s) + 1 = rw (insert_is_put rank a s rising) at more in
    omega (arith, most, same)
