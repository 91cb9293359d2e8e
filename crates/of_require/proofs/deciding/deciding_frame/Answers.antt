use Rattle.std.proofs.Common.{◌≡◌, ◌∙◌, ◌++◌, ◌∷◌, List, ap, refl, sym, subst}
use Rattle.std.specs.List.{Contains}
use Rattle.of_paths.specs.declared.path.PathClass.{PathClass}
use Rattle.of_require.proofs.DecidingLemmas.{in_middle, more_none, one_more}
use Rattle.of_require.proofs.deciding.deciding_frame.Goals as goal

pub returns-then-class_decides-clause-some : goal.returns-then-class_decides-clause-some
returns-then-class_decides-clause-some c =
    let parts : c.loop-class.yielded ++ c.in-Some.class ∷ c.next.new.self.rest.items ≡ c.args.classes.items = ap (λ (l : List PathClass). c.loop-class.yielded ++ l) (sym c.in-Some.ensures.steps.0) ∙ c.loop-class.invariant.parts in
    (c.in-Some.class, subst (λ (l : List PathClass). Contains l c.in-Some.class) parts (in_middle c.loop-class.yielded c.in-Some.class c.next.new.self.rest.items), record { decides = sym c.class_decides.ensures ∙ c.if-class_decides.true; frame = refl; in_port = refl; items = refl })

pub loop-class-preserved-else-class_decides : goal.loop-class-preserved-else-class_decides
loop-class-preserved-else-class_decides c = record {
  parts = one_more c.loop-class.yielded c.in-Some.class c.next.new.self.rest.items ∙ (ap (λ (l : List PathClass). c.loop-class.yielded ++ l) (sym c.in-Some.ensures.steps.0) ∙ c.loop-class.invariant.parts);
  none = more_none c.args.requirement.now c.loop-class.yielded c.in-Some.class c.loop-class.invariant.none (sym c.class_decides.ensures ∙ c.if-class_decides.false);
}
