use Rattle.std.proofs.Common.{◌∙◌, ◌++◌, ◌∷◌, [], List, ap, sym, subst}
use Rattle.of_symbolic_run.specs.declared.frame_set.FrameSet.{FrameSet}
use Rattle.of_require.{specs.Deciding.AreDivided, proofs.DecidingLemmas.one_more, proofs.DividingLemmas.divided_more}
use Rattle.of_require.proofs.packets.divide.Goals as goal

pub loop-set-preserved : goal.loop-set-preserved
loop-set-preserved c =
    let both = c.in_ok-push-2.ensures.items ∙ ap (λ (l : List FrameSet). l ++ c.in_ok-without.field-0 ∷ []) c.in_ok-push.ensures.items in
    let matching = rw c.deref.ensures.value at c.in_ok-matching.ensures in
    record {
      parts = one_more c.loop-set.yielded c.in-Some.set c.next.new.self.rest.items ∙ (ap (λ (l : List FrameSet). c.loop-set.yielded ++ l) (sym c.in-Some.ensures.steps.0) ∙ c.loop-set.invariant.parts);
      divided = subst (λ (l : List FrameSet). AreDivided c.args.fields.now.items (c.loop-set.yielded ++ c.in-Some.set ∷ []) l) (sym both)
          (divided_more c.args.fields.now.items c.loop-set.yielded c.loop-set.divided.items c.in-Some.set c.in_ok-matching.field-0 c.in_ok-without.field-0 c.loop-set.invariant.divided matching c.in_ok-without.ensures);
    }
