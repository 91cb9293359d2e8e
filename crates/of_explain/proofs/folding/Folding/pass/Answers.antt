use Rattle.std.proofs.Common.{◌∙◌, ◌+◌, ap, refl, sym, List, ℕ, ◌++◌, [], take}
use Rattle.std.proofs.lemmas.List.{append-nil, get_or_default, take_all}
use Rattle.of_explain.proofs.FoldLemmas.{byte_more, same_folded}
use Rattle.of_explain.proofs.folding.Folding.pass.Goals as goal

pub loop-byte-init : goal.loop-byte-init
loop-byte-init c = λ before printed h.
    same_folded before (before ++ []) printed (printed ++ c.new-out.result.items) c.args.self.now (sym (append-nil before))
    (sym (ap (λ (y : List ℕ). printed ++ y) c.new-out.ensures.items ∙ append-nil printed)) h

pub loop-byte-preserved : goal.loop-byte-preserved
loop-byte-preserved c = λ before printed h.
    same_folded _ (before ++ take (c.loop-byte.byte-index + 1) c.args.text.now) (printed ++ c.push.new.out.items) _ c.push.new.self
    (byte_more before c.args.text.now c.loop-byte.byte-index _ c.loop-byte-test.true (get_or_default c.args.text.now c.loop-byte.byte-index _ _ c.loop-byte-test.true)) refl
    (c.in_ok-push.ensures (before ++ take c.loop-byte.byte-index c.args.text.now) printed (c.loop-byte.invariant before printed h))

pub returns : goal.returns
returns c = λ before printed h.
    same_folded (before ++ take c.loop-byte.byte-index c.args.text.now) (before ++ c.args.text.now) (printed ++ c.loop-byte.out.items) _ c.loop-byte.self
    (ap (λ (y : List ℕ). before ++ y) (take_all c.loop-byte.byte-index c.args.text.now c.loop-byte-test.false)) refl (c.loop-byte.invariant before printed h)
