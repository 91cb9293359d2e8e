use Rattle.std.proofs.Common.{sym}
use Rattle.of_frame_words.proofs.{WordLemmas.refusal_as, ConditionLemmas.all_conditions, ConditionLemmas.unfit_stops}
use Rattle.of_frame_words.proofs.conditions.fit.Goals as goal

pub returns-in-None-clause-conditions : goal.returns-in-None-clause-conditions
returns-in-None-clause-conditions c = rw c.deref.ensures.value at (all_conditions c.deref.result.now c.deref.result.now (sym c.in-None.ensures))

pub returns-in-Some-clause-stopped : goal.returns-in-Some-clause-stopped
returns-in-Some-clause-stopped c = rw c.deref.ensures.value at (unfit_stops c.deref.result.now c.in-Some.e.now c.refuse.result c.in-Some.ensures (refusal_as _ _ _ _ c.refuse.result c.text_for.ensures c.why_unfit.ensures c.refuse.ensures))
