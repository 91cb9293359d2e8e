use Rattle.std.proofs.Common.{refl}
use Rattle.of_symbolic_run.proofs.FrameLemmas.{matching_is, descriptions_within}
use Rattle.of_symbolic_run.proofs.frame_set.FrameSet.matching.Goals as goal

pub invariant_of-result : goal.invariant_of-result
invariant_of-result c = record {
  conditions = c.in_ok-part.ensures.conditions;
  told = descriptions_within c.args.self.now.inner c.args.self.now.part c.in_ok-part.part (λ fields h. (c.in_ok-part.ensures.within fields h).0) c.args.self.now.told;
  range = c.args.self.now.range;
}

pub returns : goal.returns
returns c = matching_is c.args.fields.now c.args.self.now _ c.in_ok-part.ensures refl refl refl
