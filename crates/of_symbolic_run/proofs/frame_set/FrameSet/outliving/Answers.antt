use Rattle.std.proofs.Common.{◌≡◌, ◌∷◌, ◌++◌, ◌∙◌, [], List, Option, sym, ap, subst, ℕ}
use Rattle.std.{specs.Prelude.not, specs.Prelude.IfOk, specs.Prelude.Some, proofs.lemmas.Result.IfOk-weaker}
use Rattle.of_oxm.specs.declared.match_field.MatchField.{MatchField}
use Rattle.of_symbolic_run.specs.{FrameSets.AreFramesThat, FrameSets.AreFramesWithout, TimesToLive.expires}
use Rattle.of_symbolic_run.proofs.TtlFrameLemmas.{has_ttl, outliving_above, outliving_all, outliving_without}
use Rattle.of_symbolic_run.proofs.frame_set.FrameSet.outliving.Goals as goal

pub returns-in-None : goal.returns-in-None
returns-in-None c = outliving_all c.args.limit c.args.self.now c.in_ok-all.all c.in-None.is c.in_ok-all.ensures

pub returns-in-Some : goal.returns-in-Some
returns-in-Some c =
    let s = c.args.self.now in
    subst (λ (limit : Option ℕ). AreFramesThat (λ frame. not (expires limit frame)) s c.above.result) (sym c.in-Some.is) (outliving_above c.in-Some.limit s c.in_ok-all.all c.above.result c.in_ok-all.ensures c.above.ensures.part c.above.ensures.inner c.above.ensures.least c.above.ensures.most)

pub returns-in_ok-push-in-Some-2 : goal.returns-in_ok-push-in-Some-2
returns-in_ok-push-in-Some-2 c =
    let s = c.args.self.now in
    let all = c.in_ok-all.all in
    let fields : c.push.new.self.items ≡ has_ttl ∷ [] = c.in_ok-push-in-Some-2.ensures.items ∙ ap (λ (l : List MatchField). l ++ c.has_ttl.result ∷ []) c.new-fields.ensures.items ∙ ap (λ (e : MatchField). e ∷ []) c.has_ttl.ensures in
    subst (λ (limit : Option ℕ). IfOk c.without.result (AreFramesThat (λ frame. not (expires limit frame)) s)) (sym c.in-Some.is)
    (IfOk-weaker c.without.result (AreFramesWithout c.push.new.self.items all) (AreFramesThat (λ frame. not (expires (Some c.in-Some.limit) frame)) s)
    (λ new less. outliving_without c.in-Some.limit s all new c.if-limit-all.false c.in_ok-all.ensures (subst (λ (m : List MatchField). AreFramesWithout m all new) fields less)) c.without.ensures)
