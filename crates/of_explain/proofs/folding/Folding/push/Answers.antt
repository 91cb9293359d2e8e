use Rattle.std.proofs.Common.{◌≡◌, ◌∙◌, ap, arith, eqb, false, sym, subst, ℕ, ◌++◌, ◌∷◌, []}
use Rattle.std.proofs.lemmas.Bool.Decides.{nat_tests}
use Rattle.of_explain.{specs.Folding.Fold, specs.Folding.IsFolded, proofs.FoldLemmas.byte_comes, proofs.FoldLemmas.line_ends}
use Rattle.of_explain.proofs.folding.Folding.push.Goals as goal

pub returns-then-byte-ne10 : goal.returns-then-byte-ne10
returns-then-byte-ne10 c = λ text printed h.
    let other : eqb c.args.byte 10 ≡ false = grind (arith, nat_tests, c.if-byte-ne10.true) in
    byte_comes text (printed ++ c.args.out.now.items) c.args.byte c.args.self.now _ other h
    (ap (λ (f : Fold). f.held) c.self.view_is)
    (c.in_ok-push.ensures.items ∙ ap (λ (f : Fold). f.begun ++ c.args.byte ∷ []) c.self.view_is)

pub returns : goal.returns
returns c = λ text printed h.
    subst (λ (b : ℕ). IsFolded (text ++ b ∷ []) (printed ++ c.end_line.new.out.items) c.end_line.new.self) (sym c.if-byte-ne10.false)
    (line_ends text printed c.args.out.now.items c.end_line.new.out.items c.args.self.now c.end_line.new.self h
    c.in_ok-end_line.ensures.held c.in_ok-end_line.ensures.begun c.in_ok-end_line.ensures.out)
