-- The reason that is given is the one that is defined.
use Rattle.std.proofs.Common.{◌≡◌, ◌≢◌, ℕ, ◌<◌, ◌≤◌, List, Option, Some, None, refl, ◌∙◌}
use Rattle.std.{specs.Prelude.slice_get, proofs.lemmas.Bool.eq-eqb, proofs.lemmas.Bool.ne_eqb, proofs.lemmas.Bool.lt-ltb, proofs.lemmas.Bool.le-ltb}
use Rattle.of_layers.specs.declared.field.Field.{Field}
use Rattle.of_oxm.specs.{declared.match_field.MatchField.MatchField, Relations.first_difference}
use Rattle.of_table.specs.Table.{FlowEntry, winner_place}
use Rattle.of_tracing.specs.{Why.reason_in, Why.reason_of_entry, declared.reason.Reason.Reason}
use Rattle.of_tracing.specs.declared.reason.Reason.TheVariants.{Won, Differs, LowerPriority, Younger}

module _ (flows : List FlowEntry) (map : Field → Option ℕ) (place : ℕ) where
  pub none_is : slice_get flows place ≡ None → None ≡ reason_in flows map place
  none_is there = rw there refl

  module _ (entry : FlowEntry) where
    pub differs_is : (e : MatchField) (found : Option ℕ) → slice_get flows place ≡ Some entry → first_difference entry.flow.fields map ≡ Some e → found ≡ map e.field → Some (Differs e found) ≡ reason_in flows map place
    differs_is e found there h is = rw (there, h, is) refl

    pub stands_is : (r : Option Reason) → slice_get flows place ≡ Some entry → first_difference entry.flow.fields map ≡ None → r ≡ Some (reason_of_entry flows place entry (winner_place map flows)) → r ≡ reason_in flows map place
    stands_is r there h is = is ∙ rw (there, h) refl

    module _ (winner : ℕ) (wins : winner_place map flows ≡ Some winner) where
      pub won_is : winner ≡ place → Some Won ≡ Some (reason_of_entry flows place entry (winner_place map flows))
      won_is same = let test = eq-eqb winner place same in rw (wins, test) refl

      module _ (better : FlowEntry) (there : slice_get flows winner ≡ Some better) (other : winner ≢ place) where
        pub lower_is : entry.flow.priority < better.flow.priority → Some (LowerPriority winner) ≡ Some (reason_of_entry flows place entry (winner_place map flows))
        lower_is lt =
            let test = ne_eqb winner place other in
            let less = lt-ltb entry.flow.priority better.flow.priority lt in
            rw (wins, test, there, less) refl

        pub younger_is : better.flow.priority ≤ entry.flow.priority → Some (Younger winner) ≡ Some (reason_of_entry flows place entry (winner_place map flows))
        younger_is le =
            let test = ne_eqb winner place other in
            let less = le-ltb entry.flow.priority better.flow.priority le in
            rw (wins, test, there, less) refl
