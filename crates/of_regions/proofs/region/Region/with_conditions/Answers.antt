use Rattle.std.proofs.Common.{◌∙◌, ◌≤◌, List, None, true, false, get_or, length, take, sym, ap, arith}
use Rattle.std.proofs.{lemmas.List.take_all, lemmas.List.Folds.list_all_more}
use Rattle.of_layers.specs.declared.field.Field.TheVariants.{InPort}
use Rattle.of_oxm.specs.{declared.match_field.MatchField.MatchField, Relations.agrees, Relations.matches_map}
use Rattle.of_regions.proofs.NarrowingLemmas.{all_at, all_before, any_at, both_true, each_true, known_unless_tag}
use Rattle.of_regions.specs.Narrowing.{is_tag_field}
use Rattle.of_regions.proofs.region.Region.with_conditions.Goals as goal

abbrev d : MatchField
d = record { field = InPort; value = 0; mask = None }

pub with_condition-requires-clause-known : goal.with_condition-requires-clause-known
with_condition-requires-clause-known c =
    let e = get_or c.args.fields.now c.loop-e.e-index d in
    known_unless_tag c.loop-e.region e.field (λ none. any_at is_tag_field c.args.fields.now c.loop-e.e-index d c.loop-e-test.true (c.requires.tags (sym c.loop-e.invariant.same.1 ∙ none)))

pub returns-in_err-region-clause-all : goal.returns-in_err-region-clause-all
returns-in_err-region-clause-all c map h m =
    let fields = c.args.fields.now in
    let i = c.loop-e.e-index in
    let here = c.loop-e.invariant.all map h (all_before (λ x. agrees x (map x.field)) fields i m) in
    let none : ⊥ = c.in_err-region.ensures.all map here (all_at (λ x. agrees x (map x.field)) fields i d c.loop-e-test.true m) in
    absurd none

pub loop-e-preserved : goal.loop-e-preserved
loop-e-preserved c =
    let fields = c.args.fields.now in
    let i = c.loop-e.e-index in
    let e = get_or fields i d in
    record {
      within = λ map h.
          let w = c.in_ok-region.ensures.within map h in
          let o = c.loop-e.invariant.within map w.0 in
          (o.0, list_all_more (λ x. agrees x (map x.field)) fields i d c.loop-e-test.true ∙ both_true (matches_map (take i fields) map) (agrees e (map e.field)) o.1 w.1);
      all = λ map h m.
          let both = each_true (matches_map (take i fields) map) (agrees e (map e.field)) (sym (list_all_more (λ x. agrees x (map x.field)) fields i d c.loop-e-test.true) ∙ m) in
          c.in_ok-region.ensures.all map (c.loop-e.invariant.all map h both.0) both.1;
      same = (c.in_ok-region.ensures.same.0 ∙ c.loop-e.invariant.same.0, c.in_ok-region.ensures.same.1 ∙ c.loop-e.invariant.same.1);
    }

pub returns-clause-within : goal.returns-clause-within
returns-clause-within c map h =
    let o = c.loop-e.invariant.within map h in
    let past : length c.args.fields.now ≤ c.loop-e.e-index = omega (arith, c.loop-e-test.false) in
    (o.0, ap (λ (xs : List MatchField). matches_map xs map) (sym (take_all c.loop-e.e-index c.args.fields.now past)) ∙ o.1)
