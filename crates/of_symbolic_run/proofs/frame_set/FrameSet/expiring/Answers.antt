use Rattle.std.proofs.Common.{◌∷◌, [], Option, sym, subst}
use Rattle.std.specs.Prelude.{ℕ}
use Rattle.of_oxm.specs.declared.match_field.MatchField.{MatchField}
use Rattle.of_symbolic_run.{specs.FrameSets.AreFramesMatching, specs.FrameSets.AreFramesThat, specs.TimesToLive.expires, proofs.TtlFrameLemmas.expiring_is, proofs.TtlFrameLemmas.has_ttl}
use Rattle.of_symbolic_run.proofs.frame_set.FrameSet.expiring.Goals as goal

pub up_to-requires : goal.up_to-requires
up_to-requires c = rw c.in_ok-those-in-Some.ensures.least c.if-self-limit.true

pub returns-in_ok-those-in-Some : goal.returns-in_ok-those-in-Some
returns-in_ok-those-in-Some c =
    let s = c.args.self.now in
    let those = c.in_ok-those-in-Some.those in
    let are : AreFramesMatching (has_ttl ∷ []) s those = subst (λ (e : MatchField). AreFramesMatching (e ∷ []) s those) c.has_ttl.ensures c.in_ok-those-in-Some.ensures in
    subst (λ (limit : Option ℕ). AreFramesThat (expires limit) s c.up_to.result) (sym c.in-Some.is) (expiring_is c.in-Some.limit s those c.up_to.result are c.up_to.ensures.part c.up_to.ensures.inner c.up_to.ensures.least c.up_to.ensures.most)
