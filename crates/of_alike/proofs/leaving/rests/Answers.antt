use Rattle.of_alike.proofs.leaving.rests.Goals as goal

pub loop-behind-preserved : goal.loop-behind-preserved
loop-behind-preserved c = record {
  alike = λ compared ports frames others. c.loop-behind.invariant.alike compared ports frames (c.in-Some.ensures.same compared ports frames others);
  equal = λ same. c.in-Some.ensures.equal (c.loop-behind.invariant.equal same);
}
