use Rattle.std.proofs.Common.{◌∙◌, get_or, length, sym, ap, arith}
use Rattle.of_layers.specs.{declared.field.Field.Field, declared.field.Field.TheVariants.InPort}
use Rattle.of_regions.{specs.Building.IsBegunField, proofs.PlaceLemmas.place_of_read, proofs.PlaceLemmas.place_small}
use Rattle.of_regions.proofs.{RuleLemmas.free_unasked, RuleLemmas.is_asked, RuleLemmas.rule_fits, BuildingLemmas.begun_more, BuildingLemmas.unknown_after}
use Rattle.of_regions.proofs.building.begun.Goals as goal

pub begin-requires-clause-unknown : goal.begin-requires-clause-unknown
begin-requires-clause-unknown c =
    let x : Field = get_or c.every_field-field-items.result.now c.loop-field.field-index InPort in
    let at = place_of_read c.every_field-field-items.result.now c.loop-field.field-index InPort c.every_field-field-items.ensures c.loop-field-test.true in
    c.loop-field.invariant.unknown x (omega (arith, at))

pub begin-requires-clause-rule : goal.begin-requires-clause-rule
begin-requires-clause-rule c = rw c.rule_in-rule.ensures (rule_fits c.args.shape c.args.tagging (get_or c.every_field-field-items.result.now c.loop-field.field-index InPort))

pub begin-requires-clause-asked : goal.begin-requires-clause-asked
begin-requires-clause-asked c =
    let x : Field = get_or c.every_field-field-items.result.now c.loop-field.field-index InPort in
    rw (c.get.ensures, c.get-in-loop-field.ensures, c.mask_of.ensures x, c.key_of-asked.ensures x) (is_asked c.args.m.now x c.known.ensures.each)

pub begin-requires-clause-free : goal.begin-requires-clause-free
begin-requires-clause-free c e =
    let x : Field = get_or c.every_field-field-items.result.now c.loop-field.field-index InPort in
    c.get.ensures ∙ (c.mask_of.ensures x ∙ free_unasked c.args.shape c.args.tagging c.args.m.now c.requires.tags x (sym c.rule_in-rule.ensures ∙ e))

pub loop-field-preserved : goal.loop-field-preserved
loop-field-preserved c =
    let x : Field = get_or c.every_field-field-items.result.now c.loop-field.field-index InPort in
    let at = place_of_read c.every_field-field-items.result.now c.loop-field.field-index InPort c.every_field-field-items.ensures c.loop-field-test.true in
    let joined : IsBegunField c.args.shape c.args.tagging c.args.m.now c.in-Some.next x = rw (c.rule_in-rule.ensures, c.get.ensures, c.get-in-loop-field.ensures, c.mask_of.ensures x, c.key_of-asked.ensures x) at c.in-Some.ensures.joined in
    record {
      begun = begun_more c.args.shape c.args.tagging c.args.m.now c.loop-field.fields c.in-Some.next x c.loop-field.field-index at joined c.in-Some.ensures.others c.loop-field.invariant.begun;
      unknown = unknown_after c.args.shape c.args.tagging c.args.m.now c.loop-field.fields c.in-Some.next x c.loop-field.field-index at joined c.in-Some.ensures.others c.loop-field.invariant.unknown;
    }

pub returns-clause-some : goal.returns-clause-some
returns-clause-some c f =
    let small = place_small f in
    c.loop-field.invariant.begun f (omega (arith, small, c.loop-field-test.false, ap length c.every_field-field-items.ensures))
