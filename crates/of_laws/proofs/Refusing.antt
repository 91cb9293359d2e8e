-- What is written of a flow or a group of a text is refused with the text's code.
use Rattle.std.proofs.Common.{◌≡◌, ℕ, ◌+◌, ◌-◌, ◌<◌, ◌≤◌, zero, suc, Bool, true, false, not, eqb, ltb, cond, List, [], ◌∷◌, ◌++◌, length, take, drop, Option, Some, None, Result, Ok, Err, refl, sym, ap, ◌∙◌, arith, append_assoc, zero-add}
use Rattle.std.specs.Prelude.{◌&&◌, ◌||◌, IfSome, bit_and, replicate}
use Rattle.std.proofs.lemmas.Bool.{eqb-true, le-ltb, lt-ltb, ltb-false, ltb-true, ne_eqb, not-false}
use Rattle.std.specs.{Option.option_map, List.AllByRecursion, List.flat_map}
use Rattle.std.proofs.lemmas.List.{append-nil, drop_at, length-append, length-replicate}
use Rattle.of_wire.specs.{declared.code.Code.Code, Items.Items, Items.item_then, Items.items_from, Items.outcome, Refusals.first_of, Refusals.refusal}
use Rattle.of_wire.proofs.FirstLemmas.{none_applies}
use Rattle.of_layers.specs.{Fields.is_maskable, Fields.number_of, Fields.ones_of, declared.field.Field.Field}
use Rattle.of_oxm.specs.MatchGrammar.{match_body, match_head_refusals, match_len, padded, encodings}
use Rattle.of_oxm.specs.NormalForm.{IsAscending, IsKept, IsKeptMask, kept, normal, with_field, with_kept_field}
use Rattle.of_oxm.specs.{Canonical.canonical, Canonical.written_len, MatchFieldWire.is_among, MatchFieldWire.match_field_of, MatchFieldWire.encoding}
use Rattle.of_oxm.specs.{MatchReading.match_by, MatchReading.match_fields, MatchReading.match_of, MatchReading.then_normal, Prerequisites.prerequisites_met}
use Rattle.of_oxm.{specs.declared.match_field.MatchField.MatchField, proofs.MatchFieldLemmas.field_again, proofs.Normal.among_append, proofs.Normal.under_ones}
use Rattle.of_oxm.proofs.Written.{kept_encoded, written_fits}
use Rattle.of_actions.specs.{declared.action.Action.Action, declared.action.Action.TheVariants.SetField, Actions.actions_of, Actions.actions_said}
use Rattle.of_actions.{specs.CanonicalActions.canonical_action, specs.CanonicalActions.canonical_actions, specs.CanonicalActions.canonical_set_field, proofs.ActionsAgain.action_again}
use Rattle.of_actions.specs.Actions as wire
use Rattle.of_text.specs.Refusals.{text_action_refusals, text_field_refusals, list_refusals, match_refusals, or_else}
use Rattle.of_text.{specs.Rows.ActionFits, specs.Rows.FieldFits, specs.Rows.IsMask as RowMask, proofs.EntryLemmas.action_served, proofs.RefusalLemmas.first_append}
use Rattle.of_text.proofs.WireLemmas.{action_as_on_wire, field_as_on_wire}
use Rattle.of_laws.{specs.Refused.match_outcome, proofs.MatchTails.headed}

pub take-nil : {X : Type 0} (k : ℕ) → take {A = X} k [] ≡ []
take-nil zero = refl
take-nil (suc k) = refl

either_none : (o p : Option Code) → or_else o p ≡ None → (o ≡ None) × (p ≡ None)
either_none None p h = (refl, h)
either_none (Some code) p h = absurd cc

-- ---- a walk over items that are written

-- the refusals of each, after those before it
abbrev pub walked : {V : Type 0} → (List V → V → List (Bool × Code)) → List V → List V → List (Bool × Code)
walked own seen [] = []
walked own seen (v ∷ vs) = own seen v ++ walked own (seen ++ v ∷ []) vs

-- an item is refused by its own refusals, and else is read, whatever follows
pub record IsStep {V : Type 0} (kind : Items V) (text : V → List ℕ) (own : List V → V → List (Bool × Code)) (seen : List V) (v : V) (x : List ℕ) : Type 0 where
  pub some : 0 < length (text v)
  pub first : first_of (kind.refusals seen (text v ++ x)) ≡ first_of (own seen v)
  pub at : first_of (own seen v) ≡ None → kind.value_at (text v ++ x) ≡ Some v
  pub size : first_of (own seen v) ≡ None → kind.size_at (text v ++ x) ≡ length (text v)

abbrev pub AreSteps : {V : Type 0} → Items V → (V → List ℕ) → (List V → V → List (Bool × Code)) → List V → List V → Type 0
AreSteps kind text own seen [] = Unit {0}
AreSteps kind text own seen (v ∷ vs) = ((x : List ℕ) → IsStep kind text own seen v x) × AreSteps kind text own (seen ++ v ∷ []) vs

item_of : {V : Type 0} (kind : Items V) (n : ℕ) (seen : List V) (bytes : List ℕ) → 0 < length bytes → items_from kind (suc n) seen bytes ≡ item_then kind (items_from kind n) seen bytes (first_of (kind.refusals seen bytes)) (kind.value_at bytes)
unfolding items_from
item_of kind n seen [] some = absurd (omega arith)
item_of kind n seen (b ∷ bs) some = refl

none_left : {V : Type 0} (kind : Items V) (n : ℕ) (seen : List V) → items_from kind n seen [] ≡ Ok seen
unfolding items_from
none_left kind zero seen = refl
none_left kind (suc n) seen = refl

pub walk : {V : Type 0} (kind : Items V) (text : V → List ℕ) (own : List V → V → List (Bool × Code)) (n : ℕ) (seen vs : List V) → length (flat_map text vs) ≤ n → AreSteps kind text own seen vs
    → items_from kind n seen (flat_map text vs) ≡ outcome (seen ++ vs) (first_of (walked own seen vs))
walk kind text own n seen [] room h = none_left kind n seen ∙ ap Ok (sym (append-nil seen))
walk kind text own zero seen (v ∷ vs) room h =
    let some = (h.0 []).some in absurd (omega (arith, some, length-append (text v) (flat_map text vs)))
walk {V} kind text own (suc n) seen (v ∷ vs) room h =
    let rest = flat_map text vs in
    let bytes = text v ++ rest in
    let s = h.0 rest in
    let some = s.some in
    let parts = length-append (text v) rest in
    item_of kind n seen bytes (omega (arith, some, parts))
    ∙ ap (λ (o : Option Code). item_then kind (items_from kind n) seen bytes o (kind.value_at bytes)) s.first
    ∙ by_first (first_of (own seen v)) refl s (walk kind text own n (seen ++ v ∷ []) vs (omega (arith, some, parts, room)) h.1)
  where
    by_first : (o : Option Code) → first_of (own seen v) ≡ o → IsStep kind text own seen v (flat_map text vs)
        → items_from kind n (seen ++ v ∷ []) (flat_map text vs) ≡ outcome ((seen ++ v ∷ []) ++ vs) (first_of (walked own (seen ++ v ∷ []) vs))
        → item_then kind (items_from kind n) seen (text v ++ flat_map text vs) (first_of (own seen v)) (kind.value_at (text v ++ flat_map text vs)) ≡ outcome (seen ++ v ∷ vs) (first_of (own seen v ++ walked own (seen ++ v ∷ []) vs))
    by_first (Some code) is s others =
        let first : first_of (own seen v ++ walked own (seen ++ v ∷ []) vs) ≡ Some code = first_append (own seen v) (walked own (seen ++ v ∷ []) vs) ∙ ap (λ (o : Option Code). or_else o (first_of (walked own (seen ++ v ∷ []) vs))) is in
        ap (λ (o : Option Code). item_then kind (items_from kind n) seen (text v ++ flat_map text vs) o (kind.value_at (text v ++ flat_map text vs))) is ∙ ap (outcome (seen ++ v ∷ vs)) (sym first)
    by_first None is s others =
        let first : first_of (own seen v ++ walked own (seen ++ v ∷ []) vs) ≡ first_of (walked own (seen ++ v ∷ []) vs) = first_append (own seen v) (walked own (seen ++ v ∷ []) vs) ∙ ap (λ (o : Option Code). or_else o (first_of (walked own (seen ++ v ∷ []) vs))) is in
        let behind : drop (kind.size_at (text v ++ flat_map text vs)) (text v ++ flat_map text vs) ≡ flat_map text vs = ap (λ (k : ℕ). drop k (text v ++ flat_map text vs)) (s.size is) ∙ drop_at (text v) (flat_map text vs) (length (text v)) refl in
        ap (λ (o : Option Code). item_then kind (items_from kind n) seen (text v ++ flat_map text vs) o (kind.value_at (text v ++ flat_map text vs))) is
        ∙ ap (λ (o : Option V). item_then kind (items_from kind n) seen (text v ++ flat_map text vs) None o) (s.at is)
        ∙ ap (items_from kind n (seen ++ v ∷ [])) behind
        ∙ others
        ∙ ap (λ (all : List V). outcome all (first_of (walked own (seen ++ v ∷ []) vs))) (append_assoc seen (v ∷ []) vs)
        ∙ ap (outcome (seen ++ v ∷ vs)) (sym first)

-- ---- actions

abbrev own_action : List Action → Action → List (Bool × Code)
own_action seen a = (ltb 63 (length seen), refusal 2 7) ∷ text_action_refusals a

some_action : (a : Action) → 0 < length (canonical_action a)
unfolding canonical_action canonical_set_field
some_action (SetField f value) = omega arith
some_action other = omega arith

too_many : (seen : List Action) (rest : List ℕ) → ltb 63 (length seen) ≡ true → first_of (wire.wire_action_refusals false seen rest) ≡ Some (refusal 2 7)
unfolding wire.wire_action_refusals
too_many seen rest many = rw many refl

action_step : (seen : List Action) (a : Action) (x : List ℕ) → ActionFits a → IsStep (actions_of false) canonical_action own_action seen a x
action_step seen a x fits = by_count (ltb 63 (length seen)) refl
  where
    by_count : (b : Bool) → ltb 63 (length seen) ≡ b → IsStep (actions_of false) canonical_action own_action seen a x
    by_count true many =
        let own : first_of (own_action seen a) ≡ Some (refusal 2 7) = rw many refl in
        record {
          some = some_action a;
          first = too_many seen (canonical_action a ++ x) many ∙ sym own;
          at = λ none. let both : Some (refusal 2 7) ≡ None = sym own ∙ none in absurd cc;
          size = λ none. let both : Some (refusal 2 7) ≡ None = sym own ∙ none in absurd cc;
        }
    by_count false few =
        let low : length seen ≤ 63 = ltb-false 63 (length seen) few in
        let own : first_of (own_action seen a) ≡ first_of (text_action_refusals a) = rw few refl in
        record {
          some = some_action a;
          first = action_as_on_wire a seen x fits low ∙ sym own;
          at = λ none. (action_again false a seen x low (action_served a fits (sym own ∙ none))).at;
          size = λ none. (action_again false a seen x low (action_served a fits (sym own ∙ none))).size;
        }

action_steps : (seen actions : List Action) → AllByRecursion ActionFits actions → AreSteps (actions_of false) canonical_action own_action seen actions
action_steps seen [] fits = tt
action_steps seen (a ∷ actions) fits = (λ x. action_step seen a x fits.0, action_steps (seen ++ a ∷ []) actions fits.1)

-- the refusals of a list, after so many others
abbrev list_after : ℕ → List Action → List (Bool × Code)
list_after n actions = flat_map text_action_refusals (take (64 - n) actions) ++ (ltb 64 (n + length actions), refusal 2 7) ∷ []

list_same : (seen actions : List Action) → length seen ≤ 64 → first_of (walked own_action seen actions) ≡ first_of (list_after (length seen) actions)
list_same seen [] few =
    let none : take {A = Action} (64 - length seen) [] ≡ [] = take-nil (64 - length seen) in
    let low : ltb 64 (length seen + 0) ≡ false = le-ltb _ _ (omega (arith, few)) in
    sym (ap (λ (xs : List Action). first_of (flat_map text_action_refusals xs ++ (ltb 64 (length seen + 0), refusal 2 7) ∷ [])) none ∙ rw low refl)
list_same seen (a ∷ actions) few = by_count (ltb 63 (length seen)) refl (list_same (seen ++ a ∷ []) actions)
  where
    by_count : (b : Bool) → ltb 63 (length seen) ≡ b → (length (seen ++ a ∷ []) ≤ 64 → first_of (walked own_action (seen ++ a ∷ []) actions) ≡ first_of (list_after (length (seen ++ a ∷ [])) actions))
        → first_of (own_action seen a ++ walked own_action (seen ++ a ∷ []) actions) ≡ first_of (list_after (length seen) (a ∷ actions))
    by_count true many others =
        let full : length seen ≡ 64 = let over = ltb-true 63 (length seen) many in omega (arith, few, over) in
        let over : ltb 64 (64 + suc (length actions)) ≡ true = lt-ltb _ _ (omega arith) in
        let left : first_of (own_action seen a ++ walked own_action (seen ++ a ∷ []) actions) ≡ Some (refusal 2 7) = rw many refl in
        let right : first_of (list_after 64 (a ∷ actions)) ≡ Some (refusal 2 7) = rw over refl in
        left ∙ sym (ap (λ (n : ℕ). first_of (list_after n (a ∷ actions))) full ∙ right)
    by_count false room others =
        let low = ltb-false 63 (length seen) room in
        let more : length (seen ++ a ∷ []) ≡ length seen + 1 = length-append seen (a ∷ []) in
        let A = text_action_refusals a in
        let W = walked own_action (seen ++ a ∷ []) actions in
        let F = flat_map text_action_refusals (take (63 - length seen) actions) in
        let one_less : 64 - (length seen + 1) ≡ 63 - length seen = omega arith in
        let total : length seen + 1 + length actions ≡ length seen + suc (length actions) = omega arith in
        let one_more : 64 - length seen ≡ suc (63 - length seen) = omega (arith, low) in
        let last : List (Bool × Code) = (ltb 64 (length seen + suc (length actions)), refusal 2 7) ∷ [] in
        let left : first_of (own_action seen a ++ W) ≡ or_else (first_of A) (first_of W) = rw room (first_append A W) in
        let behind : first_of (list_after (length (seen ++ a ∷ [])) actions) ≡ first_of (F ++ last) =
        ap (λ (n : ℕ). first_of (list_after n actions)) more
        ∙ ap (λ (k : ℕ). first_of (flat_map text_action_refusals (take k actions) ++ (ltb 64 (length seen + 1 + length actions), refusal 2 7) ∷ [])) one_less
        ∙ ap (λ (k : ℕ). first_of (F ++ (ltb 64 k, refusal 2 7) ∷ [])) total in
        let front : first_of (list_after (length seen) (a ∷ actions)) ≡ first_of ((A ++ F) ++ last) = ap (λ (k : ℕ). first_of (flat_map text_action_refusals (take k (a ∷ actions)) ++ last)) one_more in
        let right : first_of ((A ++ F) ++ last) ≡ or_else (first_of A) (first_of (F ++ last)) = ap first_of (append_assoc A F last) ∙ first_append A (F ++ last) in
        left ∙ ap (or_else (first_of A)) (others (omega (arith, more, low)) ∙ behind) ∙ sym (front ∙ right)

pub actions_told : (actions : List Action) → AllByRecursion ActionFits actions → actions_said false (canonical_actions actions) ≡ outcome actions (first_of (list_refusals actions))
unfolding actions_said list_refusals
actions_told actions fits =
    walk (actions_of false) canonical_action own_action (length (canonical_actions actions)) [] actions (omega arith) (action_steps [] actions fits)
    ∙ ap (outcome actions) (list_same [] actions (omega arith) ∙ ap (λ (n : ℕ). first_of (flat_map text_action_refusals (take 64 actions) ++ (ltb 64 n, refusal 2 7) ∷ [])) (zero-add (length actions)))

-- ---- the fields of a match

some_field : (e : MatchField) → 0 < length (encoding e)
unfolding encoding
some_field e = omega arith

-- a field that is not refused has an encoding, and its mask is kept
mask_sound : (f : Field) (v : ℕ) (mask : Option ℕ) → IfSome mask (RowMask f) → first_of (text_field_refusals (record { field = f; value = v; mask = mask })) ≡ None → IfSome mask (IsKeptMask f v)
mask_sound f v None fits none = tt
mask_sound f v (Some m) fits none =
    let tests = none_applies (text_field_refusals (record { field = f; value = v; mask = Some m })) none in
    let within : bit_and m (ones_of f) ≡ m = under_ones f m (let low = fits.not_all in omega arith) in
    let other : eqb (bit_and m (ones_of f)) (ones_of f) ≡ false = ne_eqb _ _ (λ e. let low = fits.not_all in omega (arith, e, within)) in
    let covered = not-false (eqb (bit_and v m) v) tests.1.1.0 in
    record { maskable = maskable (is_maskable f) (rw other at tests.0); some = fits.some; not_all = fits.not_all; within = within; covers = eqb-true _ _ covered }
  where
    maskable : (b : Bool) → (not b && not false) ≡ false → b ≡ true
    maskable true h = refl
    maskable false h = absurd cc

field_kept : (e : MatchField) → FieldFits e → first_of (text_field_refusals e) ≡ None → IsKept e
field_kept e fits none =
    let tests = none_applies (text_field_refusals e) none in
    record { value = ltb-false (ones_of e.field) e.value tests.1.0; mask = mask_sound e.field e.value e.mask fits.1 none }

unfoldable own_field : List MatchField → MatchField → List (Bool × Code)
own_field seen e = text_field_refusals e

field_step : (seen : List MatchField) (e : MatchField) (x : List ℕ) → FieldFits e → is_among e.field seen ≡ false → IsStep match_fields encoding own_field seen e x
unfolding own_field
field_step seen e x fits new =
    record {
      some = some_field e;
      first = field_as_on_wire e seen x fits new;
      at = λ none. let f = field_again e seen x (kept_encoded e (field_kept e fits none)) new in ap (option_map (λ (g : Field). match_field_of g (encoding e ++ x))) f.at ∙ ap Some f.same;
      size = λ none. (field_again e seen x (kept_encoded e (field_kept e fits none)) new).size_is;
    }

not_among : (e : MatchField) (seen es : List MatchField) → AllByRecursion (λ x. is_among x.field seen ≡ false) es → AllByRecursion (λ x. number_of e.field < number_of x.field) es → AllByRecursion (λ x. is_among x.field (seen ++ e ∷ []) ≡ false) es
not_among e seen [] h up = tt
not_among e seen (x ∷ xs) h up =
    let ne : eqb (number_of e.field) (number_of x.field) ≡ false = ne_eqb _ _ (λ s. omega (arith, s, up.0)) in
    (among_append x.field seen (e ∷ []) ∙ ap (λ (b : Bool). b || (eqb (number_of e.field) (number_of x.field) || false)) h.0 ∙ ap (λ (b : Bool). b || false) ne, not_among e seen xs h.1 up.1)

none_before : (es : List MatchField) → AllByRecursion (λ x. is_among x.field [] ≡ false) es
none_before [] = tt
none_before (e ∷ es) = (refl, none_before es)

field_steps : (seen es : List MatchField) → AllByRecursion FieldFits es → IsAscending es → AllByRecursion (λ x. is_among x.field seen ≡ false) es → AreSteps match_fields encoding own_field seen es
field_steps seen [] fits up new = tt
field_steps seen (e ∷ es) fits up new = (λ x. field_step seen e x fits.0 new.0, field_steps (seen ++ e ∷ []) es fits.1 up.1 (not_among e seen es new.1 up.0))

fields_same : (seen es : List MatchField) → walked own_field seen es ≡ flat_map text_field_refusals es
unfolding own_field
fields_same seen [] = refl
fields_same seen (e ∷ es) = ap (λ (rs : List (Bool × Code)). text_field_refusals e ++ rs) (fields_same (seen ++ e ∷ []) es)

fields_told : (es : List MatchField) → AllByRecursion FieldFits es → IsAscending es → items_from match_fields (length (encodings es)) [] (encodings es) ≡ outcome es (first_of (flat_map text_field_refusals es))
fields_told es fits up =
    walk match_fields encoding own_field (length (encodings es)) [] es (omega arith) (field_steps [] es fits up (none_before es)) ∙ ap (λ (rs : List (Bool × Code)). outcome es (first_of rs)) (fields_same [] es)

-- ---- fields of which none is refused are their own normal form

all_kept : (es : List MatchField) → AllByRecursion FieldFits es → first_of (flat_map text_field_refusals es) ≡ None → AllByRecursion IsKept es
all_kept [] fits none = tt
all_kept (e ∷ es) fits none =
    let parts = either_none (first_of (text_field_refusals e)) (first_of (flat_map text_field_refusals es)) (sym (first_append (text_field_refusals e) (flat_map text_field_refusals es)) ∙ none) in
    (field_kept e fits.0 parts.0, all_kept es fits.1 parts.1)

kept_by : (f : Field) (v : ℕ) (mask : Option ℕ) → IfSome mask (IsKeptMask f v) → let e : MatchField = record { field = f; value = v; mask = mask } in kept e ≡ Some e
unfolding kept
kept_by f v None h = refl
kept_by f v (Some m) h =
    let some : eqb m 0 ≡ false = let low = h.some in ne_eqb m 0 (λ e. omega (arith, e, low)) in
    let other : eqb m (ones_of f) ≡ false = let low = h.not_all in ne_eqb m (ones_of f) (λ e. omega (arith, e, low)) in
    rw (h.within, some, other) refl

put_first : (e : MatchField) (es : List MatchField) → AllByRecursion (λ x. number_of e.field < number_of x.field) es → with_field e es ≡ e ∷ es
put_first e [] h = refl
put_first e (x ∷ xs) h = rw (lt-ltb _ _ h.0) refl

normal_same : (es : List MatchField) → AllByRecursion IsKept es → IsAscending es → normal es ≡ es
normal_same [] each up = refl
normal_same (e ∷ es) each up =
    ap (λ (o : Option MatchField). with_kept_field o (normal es)) (kept_by e.field e.value e.mask each.0.mask) ∙ ap (with_field e) (normal_same es each.1 up.1) ∙ put_first e es up.0

-- ---- a match

pub canonical_least : (es : List MatchField) → 8 ≤ length (canonical es)
unfolding canonical
canonical_least es =
    let sp = encodings es in
    let len = written_len es in
    let zeros : List ℕ = replicate (padded len - len) 0 in
    let padding : length zeros ≡ padded len - len = length-replicate (padded len - len) 0 in
    omega (arith, length-append sp zeros, padding)

-- what bytes say that begin with such a match
record Begun (es : List MatchField) (bytes : List ℕ) : Type 0 where
  none : first_of (match_head_refusals bytes) ≡ None
  body : match_body bytes ≡ encodings es
  size : padded (match_len bytes) ≡ length (canonical es)

begun : (es : List MatchField) (x : List ℕ) → IsAscending es → Begun es (canonical es ++ x)
unfolding canonical
begun es x up =
    let sp = encodings es in
    let len = written_len es in
    let zeros : List ℕ = replicate (padded len - len) 0 in
    let padding : length zeros ≡ padded len - len = length-replicate (padded len - len) 0 in
    let le : len ≤ padded len = omega arith in
    let size : length (canonical es) ≡ padded len = omega (arith, length-append sp zeros, padding, le) in
    let h = headed sp zeros x len (omega arith) (written_fits es up) size in
    record { none = h.none; body = h.body; size = ap padded h.len_is ∙ sym size }

pub match_told : (es : List MatchField) (x : List ℕ) → AllByRecursion FieldFits es → IsAscending es → match_of (canonical es ++ x) ≡ match_outcome es (first_of (match_refusals es))
unfolding match_of match_refusals
match_told es x fits up =
    let bytes = canonical es ++ x in
    let b = begun es x up in
    let refused = flat_map text_field_refusals es in
    let need : List (Bool × Code) = (not (prerequisites_met es), refusal 4 9) ∷ [] in
    ap (match_by bytes) b.none
    ∙ ap (λ (y : List ℕ). then_normal (padded (match_len bytes)) (items_from match_fields (length y) [] y)) b.body
    ∙ ap (λ (n : ℕ). then_normal n (items_from match_fields (length (encodings es)) [] (encodings es))) b.size
    ∙ ap (then_normal (length (canonical es))) (fields_told es fits up)
    ∙ by_fields (first_of refused) refl
    ∙ ap (match_outcome es) (sym (first_append refused need))
  where
    by_met : (normal es ≡ es) → (t : Bool) → prerequisites_met es ≡ t → cond {A = Result (List MatchField × ℕ) Code} t (Ok (es, length (canonical es))) (Err (refusal 4 9)) ≡ match_outcome es (cond (not t) (Some (refusal 4 9)) None)
    by_met same true met = refl
    by_met same false met = refl

    by_fields : (o : Option Code) → first_of (flat_map text_field_refusals es) ≡ o → then_normal (length (canonical es)) (outcome es o) ≡ match_outcome es (or_else o (first_of ((not (prerequisites_met es), refusal 4 9) ∷ [])))
    by_fields (Some code) is = refl
    by_fields None is =
        let same = normal_same es (all_kept es fits is) up in
        ap (λ (m : List MatchField). cond {A = Result (List MatchField × ℕ) Code} (prerequisites_met m) (Ok (m, length (canonical es))) (Err (refusal 4 9))) same ∙ by_met same (prerequisites_met es) refl
