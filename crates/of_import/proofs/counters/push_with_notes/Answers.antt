use Rattle.std.proofs.Common.{◌++◌, ap, List, ℕ}
use Rattle.of_lines.specs.Lines.{lines_of}
use Rattle.of_import.{specs.Counters.with_notes, specs.CounterViews.notes_to_come, proofs.CounterLemmas.noted_end, proofs.CounterLemmas.noted_step, proofs.CounterLemmas.to_come_first}
use Rattle.of_ovs_words.proofs.WordLemmas.{some_bytes, no_bytes}
use Rattle.of_import.proofs.counters.push_with_notes.Goals as goal

pub loop-rest-init : goal.loop-rest-init
loop-rest-init c = ap (λ (ns : List (List ℕ)). c.args.out.now.items ++ with_notes ns (lines_of c.args.text.now)) (to_come_first c.args.notes.items c.reverse.new.self.items c.reverse.ensures.items)

pub loop-rest-preserved : goal.loop-rest-preserved
loop-rest-preserved c = noted_step c.loop-rest.out.items c.push_noted.new.out.items _ (notes_to_come c.loop-rest.left.items) (notes_to_come c.push_noted.new.left.items) c.loop-rest.rest.now c.cut.result.0.now c.cut.result.1.now (some_bytes c.loop-rest.rest.now c.is_empty.result c.is_empty.ensures c.loop-rest-test.true) c.cut.ensures.first c.cut.ensures.rest c.in_ok-push_noted.ensures.out c.in_ok-push_noted.ensures.left c.loop-rest.invariant

pub returns : goal.returns
returns c = noted_end c.loop-rest.out.items _ (notes_to_come c.loop-rest.left.items) c.loop-rest.rest.now (no_bytes c.loop-rest.rest.now c.is_empty.result c.is_empty.ensures c.loop-rest-test.false) c.loop-rest.invariant
