-- Before which moment no entry expires, as entries are added, change and are removed.
use Rattle.std.proofs.Common.{◌≡◌, ℕ, ◌+◌, ◌<◌, Bool, true, false, not, cond, ◌&&◌, min, List, [], ◌∷◌, ◌++◌, Option, Some, None, set, refl, ap, ◌∙◌, arith}
use Rattle.std.{specs.Prelude.filter, specs.Prelude.is_none, specs.Option.option_map, specs.Option.option_to_list, proofs.lemmas.List.Folds.list_all-append}
use Rattle.of_actions.specs.declared.instruction.Instruction.{Instruction}
use Rattle.of_table.specs.Selecting.{modifies, modified_by, modified_entries, modified_entry, reason_of, stays, told_by, numbered_notices, kept_of}
use Rattle.of_table.specs.{declared.entry.Entry.Entry, declared.flow.Flow.Flow, declared.selection.Selector.Selector, declared.selection.Cause.Cause, declared.selection.Cause.TheVariants.Moment}
use Rattle.of_table.specs.{Table.FlowEntry, Table.is_same, Table.with_flow, Entries.entry_of, Entries.same_entry, Entries.added_entries, Deadlines.all_stay, Deadlines.NoneOver}
use Rattle.of_table.proofs.Soundness.{all-filter, all-set}
use Rattle.of_oxm.proofs.Related.{and_true}
use Rattle.of_wire.specs.declared.reasons.FlowRemovedReason.{FlowRemovedReason}

pub added_none_over : (due until number now : ℕ) (flow : Flow) (es : List Entry) → NoneOver due es → ((at : ℕ) (old : Option FlowEntry) → at < until → stays (Moment at) (with_flow now flow old) ≡ true) → NoneOver (min due until) (added_entries number now flow es)
added_none_over due until number now flow es none new at lt =
    let before : all_stay (Moment at) es ≡ true = none at (omega arith) in
    let last : stays (Moment at) (with_flow now flow (option_map entry_of (same_entry flow es))) ≡ true = new at (option_map entry_of (same_entry flow es)) (omega arith) in
    let kept = all-filter (λ e. stays (Moment at) (entry_of e)) (λ e. not (is_same flow (entry_of e))) es before in
    rw (list_all-append (λ e. stays (Moment at) (entry_of e)) (filter (λ e. not (is_same flow (entry_of e))) es) _, kept, last) refl

same_time : (at : ℕ) (w : Selector) (is : List Instruction) (reset : Bool) (e : FlowEntry) → stays (Moment at) (modified_by w is reset e) ≡ stays (Moment at) e
same_time at w is reset e = by_test (modifies w e)
  where
    by_test : (b : Bool) → stays (Moment at) (cond b (modified_entry is reset e) e) ≡ stays (Moment at) e
    by_test true = refl
    by_test false = refl

modified_stay : (at : ℕ) (w : Selector) (is : List Instruction) (reset : Bool) (es : List Entry) → all_stay (Moment at) (modified_entries w is reset es) ≡ all_stay (Moment at) es
modified_stay at w is reset [] = refl
modified_stay at w is reset (e ∷ es) = λ j. same_time at w is reset (entry_of e) j && modified_stay at w is reset es j

pub modified_none_over : (due : ℕ) (w : Selector) (is : List Instruction) (reset : Bool) (es : List Entry) → NoneOver due es → NoneOver due (modified_entries w is reset es)
modified_none_over due w is reset es none at lt = modified_stay at w is reset es ∙ none at lt

pub kept_none_over : (due : ℕ) (cause : Cause) (es zs : List Entry) → zs ≡ kept_of cause es → NoneOver due es → NoneOver due zs
kept_none_over due cause es zs is none at lt = ap (all_stay (Moment at)) is ∙ all-filter (λ e. stays (Moment at) (entry_of e)) (λ e. stays cause (entry_of e)) es (none at lt)

-- where all stay, nothing is removed and there is no notice
pub all_kept : (cause : Cause) (es : List Entry) → all_stay cause es ≡ true → kept_of cause es ≡ es
all_kept cause [] h = refl
all_kept cause (e ∷ es) h = by_test (stays cause (entry_of e)) h (all_kept cause es)
  where
    by_test : (b : Bool) → (b && all_stay cause es) ≡ true → (all_stay cause es ≡ true → kept_of cause es ≡ es) → cond b (e ∷ kept_of cause es) (kept_of cause es) ≡ e ∷ es
    by_test true g ih = ap (λ (xs : List Entry). e ∷ xs) (ih g)
    by_test false g ih = absurd cc

none_by : (table : ℕ) (e : Entry) (reason : Option FlowRemovedReason) → is_none reason ≡ true → option_to_list (told_by table e reason) ≡ []
none_by table e None h = refl
none_by table e (Some reason) h = absurd cc

pub none_told : (cause : Cause) (table : ℕ) (es : List Entry) → all_stay cause es ≡ true → numbered_notices cause table es ≡ []
none_told cause table [] h = refl
none_told cause table (e ∷ es) h =
    let both = and_true (stays cause (entry_of e)) (all_stay cause es) h in
    λ j. none_by table e (reason_of cause (entry_of e)) both.0 j ++ none_told cause table es both.1 j

-- one entry is changed
pub set_stay : (at : ℕ) (es : List Entry) (i : ℕ) (e : Entry) → all_stay (Moment at) es ≡ true → stays (Moment at) (entry_of e) ≡ true → all_stay (Moment at) (set es i e) ≡ true
set_stay at es i e h is = all-set (λ x. stays (Moment at) (entry_of x)) es i e h is
