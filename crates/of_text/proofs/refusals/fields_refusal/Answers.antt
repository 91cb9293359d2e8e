use Rattle.std.{specs.List.flat_map, proofs.Common.Some, proofs.Common.None, proofs.Common.sym, proofs.Common.◌∙◌, proofs.lemmas.List.at_drop_all}
use Rattle.of_wire.specs.Refusals.{first_of}
use Rattle.of_text.{specs.Refusals.text_field_refusals, proofs.RefusalLemmas.next_at}
use Rattle.of_text.proofs.refusals.fields_refusal.Goals as goal

pub returns-in-Some : goal.returns-in-Some
returns-in-Some c = sym (next_at text_field_refusals c.args.fields.now c.loop-e.e-index _ (Some c.in-Some.code) c.loop-e-test.true c.in-Some.ensures c.loop-e.invariant)

pub loop-e-preserved : goal.loop-e-preserved
loop-e-preserved c = next_at text_field_refusals c.args.fields.now c.loop-e.e-index _ None c.loop-e-test.true c.in_default.ensures c.loop-e.invariant

pub returns : goal.returns
returns c = sym (c.loop-e.invariant ∙ at_drop_all (λ xs. first_of (flat_map text_field_refusals xs)) c.args.fields.now c.loop-e.e-index c.loop-e-test.false)
