use Rattle.std.proofs.Common.{◌∙◌, ap, List, ℕ, ◌++◌}
use Rattle.of_explain.{specs.Folding.Fold, proofs.FoldLemmas.all_printed}
use Rattle.of_explain.proofs.folding.Folding.end.Goals as goal

pub returns : goal.returns
returns c = λ text printed h.
    all_printed text printed c.extend_from_slice-2.new.self.items c.args.self.now h
    (c.in_ok-extend_from_slice-2.ensures.items
    ∙ (ap (λ (y : List ℕ). y ++ c.deref-2.result.now)
    (c.in_ok-extend_from_slice.ensures.items ∙ (ap (λ (y : List ℕ). y ++ c.deref.result.now) c.new-out.ensures.items ∙ (c.deref.ensures.value ∙ ap (λ (f : Fold). f.held) c.self.view_is)))
    ∙ ap (λ (y : List ℕ). c.args.self.now.held ++ y) (c.deref-2.ensures.value ∙ ap (λ (f : Fold). f.begun) c.self.view_is)))
