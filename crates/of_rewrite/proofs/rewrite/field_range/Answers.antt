use Rattle.std.proofs.Common.{sym, ◌∙◌, arith}
use Rattle.of_layers.specs.Fields.{number_of}
use Rattle.of_rewrite.proofs.{Lending.lent_whole, Lending.lent_begun, Lending.lent_ended, Lending.lent_absent, Unset.place_facts, Unset.place_inside}
use Rattle.of_rewrite.proofs.rewrite.field_range.Goals as goal

pub overflow_add-result : goal.overflow_add-result
overflow_add-result c = let f = (place_facts (number_of c.args.field) c.args.bytes.now c.in-Some.place c.all_bytes.ensures c.requires.long c.requires.short (sym (c.place.ensures c.args.bytes.now c.requires.long (omega (arith, c.requires.short)) c.requires.layout) ∙ c.in-Some.is)).1 in omega (arith, f)

pub returns-in-Some-clause-bounds : goal.returns-in-Some-clause-bounds
returns-in-Some-clause-bounds c = lent_whole c.args.field c.args.bytes.now c.in-Some.place (sym (c.place.ensures c.args.bytes.now c.requires.long (omega (arith, c.requires.short)) c.requires.layout) ∙ c.in-Some.is) c.if-place-eq0.true c.if-place-eq0-2.true

pub returns-in-Some-clause-room : goal.returns-in-Some-clause-room
returns-in-Some-clause-room c = let f = place_inside (number_of c.args.field) c.args.bytes.now c.in-Some.place c.all_bytes.ensures c.requires.long (sym (c.place.ensures c.args.bytes.now c.requires.long (omega (arith, c.requires.short)) c.requires.layout) ∙ c.in-Some.is) in omega (arith, f)

pub returns-in_default-clause-bounds : goal.returns-in_default-clause-bounds
returns-in_default-clause-bounds c = lent_ended c.args.field c.args.bytes.now c.in-Some.place (sym (c.place.ensures c.args.bytes.now c.requires.long (omega (arith, c.requires.short)) c.requires.layout) ∙ c.in-Some.is) c.if-place-eq0.true c.if-place-eq0-2.false

pub returns-in_default-2-clause-bounds : goal.returns-in_default-2-clause-bounds
returns-in_default-2-clause-bounds c = lent_begun c.args.field c.args.bytes.now c.in-Some.place (sym (c.place.ensures c.args.bytes.now c.requires.long (omega (arith, c.requires.short)) c.requires.layout) ∙ c.in-Some.is) c.if-place-eq0.false

pub returns-in_default-3-clause-bounds : goal.returns-in_default-3-clause-bounds
returns-in_default-3-clause-bounds c = lent_absent c.args.field c.args.bytes.now (sym (c.place.ensures c.args.bytes.now c.requires.long (omega (arith, c.requires.short)) c.requires.layout) ∙ c.in_default.is)
