-- What goes with a match goes with each match that it covers.
use Rattle.std.proofs.Common.{◌≡◌, ℕ, ltb, Bool, true, false, ◌||◌, List, [], ◌∷◌, Option, Some, None, refl, sym, subst, arith}
use Rattle.std.proofs.lemmas.Bool.Decides.{nat_tests}
use Rattle.of_layers.specs.{declared.field.Prerequisite.Prerequisite, Fields.number_of, Fields.prerequisite_of}
use Rattle.of_oxm.{specs.declared.match_field.MatchField.MatchField, specs.Prerequisites.is_met, specs.SameMatch.is_same_match, specs.NormalForm.IsMatch, proofs.Covered.covered_has_prerequisites}
use Rattle.of_oxm.proofs.Related.{and_true}
use Rattle.of_actions.specs.declared.instruction.Instruction.TheVariants.{Apply, Write}
use Rattle.of_actions.specs.{declared.action.Action.Action, declared.action.Action.TheVariants.SetField, declared.instruction.Instruction.Instruction}
use Rattle.of_actions.specs.FlowCheck.{is_prerequisite_met, are_needs_met, has_prerequisites_met, all_go_with}
use Rattle.of_table.specs.{declared.selection.Selector.Selector, Table.FlowEntry, Selecting.is_meant_by, Selecting.is_meant, Selecting.has_cookie, Selecting.modifies}
use Rattle.of_table.proofs.AddLemmas.{same_is}

or_more : (a b c : Bool) → (b ≡ true → c ≡ true) → (a || b) ≡ true → (a || c) ≡ true
or_more true b c f h = refl
or_more false b c f h = f h

need_kept : (d m : List MatchField) → ((n : Prerequisite) → is_met d n ≡ true → is_met m n ≡ true) → (a : Action) → is_prerequisite_met d a ≡ true → is_prerequisite_met m a ≡ true
need_kept d m more (SetField field value) h = or_more (ltb (number_of field) 8) (is_met d (prerequisite_of field)) (is_met m (prerequisite_of field)) (more (prerequisite_of field)) h
need_kept d m more other h = refl

needs_kept : (d m : List MatchField) → ((n : Prerequisite) → is_met d n ≡ true → is_met m n ≡ true) → (actions : List Action) → are_needs_met d actions ≡ true → are_needs_met m actions ≡ true
needs_kept d m more [] h = refl
needs_kept d m more (a ∷ rest) h =
    let p = and_true (is_prerequisite_met d a) (are_needs_met d rest) h in
    rw (need_kept d m more a p.0, needs_kept d m more rest p.1) refl

still_goes : (d m : List MatchField) → ((n : Prerequisite) → is_met d n ≡ true → is_met m n ≡ true) → (i : Instruction) → has_prerequisites_met d i ≡ true → has_prerequisites_met m i ≡ true
still_goes d m more (Apply actions) h = needs_kept d m more actions h
still_goes d m more (Write actions) h = needs_kept d m more actions h
still_goes d m more other h = refl

all_still_go : (d m : List MatchField) → ((n : Prerequisite) → is_met d n ≡ true → is_met m n ≡ true) → (is : List Instruction) → all_go_with d is ≡ true → all_go_with m is ≡ true
all_still_go d m more [] h = refl
all_still_go d m more (i ∷ is) h =
    let p = and_true (has_prerequisites_met d i) (all_go_with d is) h in
    rw (still_goes d m more i p.0, all_still_go d m more is p.1) refl

meant_goes : (o : Option ℕ) (w : Selector) (e : FlowEntry) (is : List Instruction) → IsMatch w.fields → IsMatch e.flow.fields → is_meant_by o w e ≡ true → all_go_with w.fields is ≡ true → all_go_with e.flow.fields is ≡ true
meant_goes None w e is mw me meant h = all_still_go w.fields e.flow.fields (λ n met. covered_has_prerequisites w.fields e.flow.fields n mw me meant met) is h
meant_goes (Some priority) w e is mw me meant h =
    let test : is_same_match e.flow.fields w.fields ≡ true = grind (arith, nat_tests, meant) in
    subst (λ (m : List MatchField). all_go_with m is ≡ true) (sym (same_is e.flow.fields w.fields test)) h

-- what goes with the match of a MODIFY goes with each entry that it selects
pub modified_goes : (w : Selector) (e : FlowEntry) (is : List Instruction) → IsMatch w.fields → IsMatch e.flow.fields → modifies w e ≡ true → all_go_with w.fields is ≡ true → all_go_with e.flow.fields is ≡ true
modified_goes w e is mw me modified h = meant_goes w.priority w e is mw me (and_true (is_meant w e) (has_cookie w e) modified).0 h
