-- Entries after one of them is changed.
use Rattle.std.proofs.Common.{◌≡◌, ℕ, zero, suc, ◌<◌, Bool, List, [], ◌∷◌, length, get_or, set, refl, sym, ap, ◌∙◌, arith}
use Rattle.std.{specs.Prelude.map, proofs.lemmas.List.length-map}
use Rattle.of_actions.specs.declared.instruction.Instruction.{Instruction}
use Rattle.of_table.specs.{Table.FlowEntry, Entries.entry_of, Entries.flows_of, Entries.classifier_row, Entries.rows_of, Selecting.modified_by, Selecting.modified, Selecting.modified_entries}
use Rattle.of_table.specs.{declared.selection.Selector.Selector, declared.entry.Entry.Entry}

pub set_same : {X Y : Type 0} (f : X → Y) (xs : List X) (k : ℕ) (x d : X) → k < length xs → f x ≡ f (get_or xs k d) → map f (set xs k x) ≡ map f xs
set_same f [] k x d lt is = absurd (omega (arith, lt))
set_same {X} {Y} f (y ∷ xs) zero x d lt is = ap (λ (z : Y). z ∷ map f xs) is
set_same {X} {Y} f (y ∷ xs) (suc k) x d lt is = ap (λ (zs : List Y). f y ∷ zs) (set_same f xs k x d (omega (arith, lt)) is)

pub same_length : (es zs : List Entry) → rows_of es ≡ rows_of zs → length es ≡ length zs
same_length es zs same = sym (length-map es classifier_row) ∙ ap length same ∙ length-map zs classifier_row

-- the classifier knows as much of it as before
pub rows_kept : (es zs : List Entry) (k : ℕ) (e d : Entry) → k < length zs → rows_of es ≡ rows_of zs → classifier_row e ≡ classifier_row (get_or es k d) → rows_of (set es k e) ≡ rows_of zs
rows_kept es zs k e d lt same is = set_same classifier_row es k e d (omega (arith, lt, same_length es zs same)) is ∙ same

-- the same without the numbers
pub flows_modified : (w : Selector) (is : List Instruction) (reset : Bool) (es : List Entry) → flows_of (modified_entries w is reset es) ≡ modified w is reset (flows_of es)
flows_modified w is reset [] = refl
flows_modified w is reset (e ∷ es) = ap (λ (fs : List FlowEntry). modified_by w is reset (entry_of e) ∷ fs) (flows_modified w is reset es)
