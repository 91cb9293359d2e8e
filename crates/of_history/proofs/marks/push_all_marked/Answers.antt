use Rattle.std.proofs.Common.{ℕ, List, ◌++◌}
use Rattle.of_text.{specs.Lines.ended, proofs.LineLemmas.some_bytes, proofs.LineLemmas.no_bytes}
use Rattle.of_history.proofs.MarkLemmas.{next_line, no_line}
use Rattle.of_history.proofs.marks.push_all_marked.Goals as goal

pub loop-rest-preserved : goal.loop-rest-preserved
loop-rest-preserved c = next_line (λ (x : List ℕ). c.args.mark.now ++ ended x) c.loop-rest.out.items c.push_marked.new.out.items c.loop-rest.rest.now c.cut.result.0.now c.cut.result.1.now _ (some_bytes c.loop-rest.rest.now c.is_empty.result c.is_empty.ensures c.loop-rest-test.true) c.cut.ensures.first c.cut.ensures.rest c.in_ok-push_marked.ensures c.loop-rest.invariant

pub returns : goal.returns
returns c = no_line (λ (x : List ℕ). c.args.mark.now ++ ended x) c.loop-rest.out.items c.loop-rest.rest.now _ (no_bytes c.loop-rest.rest.now c.is_empty.result c.is_empty.ensures c.loop-rest-test.false) c.loop-rest.invariant
