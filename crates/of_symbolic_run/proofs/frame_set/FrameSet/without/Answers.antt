use Rattle.std.proofs.Common.{refl}
use Rattle.of_symbolic_run.proofs.FrameLemmas.{descriptions_within, without_is}
use Rattle.of_symbolic_run.proofs.frame_set.FrameSet.without.Goals as goal

pub invariant_of-result : goal.invariant_of-result
invariant_of-result c = record {
  conditions = c.in_ok-part.ensures.conditions c.args.self.conditions;
  told = descriptions_within c.args.self.inner c.args.self.part c.in_ok-part.part (λ fields h. (c.in_ok-part.ensures.within fields h).0) c.args.self.told;
  range = c.args.self.range;
}

pub returns : goal.returns
returns c = without_is c.args.fields.now.items c.args.self _ c.in_ok-part.ensures refl refl refl
