use Rattle.std.proofs.Common.{◌∙◌, ◌-◌, arith}
use Rattle.of_values.proofs.StepLemmas.{prefix_next}
use Rattle.of_values.proofs.prefixes.prefix_length.Goals as goal

pub loop-bits-preserved : goal.loop-bits-preserved
loop-bits-preserved c = record {
  few = omega (arith, c.loop-bits.invariant.few);
  found = c.loop-bits.invariant.found ∙ prefix_next c.args.ones c.args.mask c.loop-bits.bits (c.loop-bits.bits - 1) c.first_bits.result (omega (arith, c.loop-bits-test.true)) c.first_bits.ensures c.if-first_bits-mask.false;
}
