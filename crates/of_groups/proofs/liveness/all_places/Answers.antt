use Rattle.std.proofs.Common.{◌∙◌, sym, ap, ◌++◌, ◌∷◌, [], ℕ, List, length, arith}
use Rattle.of_groups.proofs.LiveLemmas.{range_more, range_length}
use Rattle.of_groups.proofs.liveness.all_places.Goals as goal

pub push-requires : goal.push-requires
push-requires c = omega (arith, ap length c.loop-place.invariant, range_length c.loop-place.place, c.loop-place-test.true, c.requires)

pub loop-place-preserved : goal.loop-place-preserved
loop-place-preserved c = c.push.ensures ∙ (ap (λ (xs : List ℕ). xs ++ c.loop-place.place ∷ []) c.loop-place.invariant ∙ sym (range_more c.loop-place.place))
