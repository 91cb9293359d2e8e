use Rattle.std.proofs.Common.{◌-◌, ◌++◌, arith}
use Rattle.of_values.{specs.Numbers.digits, proofs.StepLemmas.digits_next}
use Rattle.of_values.proofs.digits.push_digits.Goals as goal

pub loop-place-preserved : goal.loop-place-preserved
loop-place-preserved c = record {
  few = omega (arith, c.loop-place.invariant.few);
  text = digits_next c.args.least c.loop-place.place (c.loop-place.place - 1) c.args.number c.loop-place.out.items c.push_digit.new.out.items (c.args.out.now.items ++ digits c.args.least c.args.most c.args.number)
      (omega (arith, c.loop-place-test.true)) c.in_ok-push_digit.ensures c.loop-place.invariant.text;
}
