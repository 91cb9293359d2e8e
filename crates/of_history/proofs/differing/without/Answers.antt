use Rattle.of_text.proofs.LineLemmas.{some_bytes, no_bytes}
use Rattle.of_history.{specs.Changes.line_without, proofs.MarkLemmas.next_line, proofs.MarkLemmas.no_line}
use Rattle.of_history.proofs.differing.without.Goals as goal

pub loop-rest-preserved : goal.loop-rest-preserved
loop-rest-preserved c =
    let some = some_bytes c.loop-rest.rest.now c.is_empty.result c.is_empty.ensures c.loop-rest-test.true in
    record {
      within = c.in_ok-part.ensures.within;
      text = next_line (line_without c.args.other.now) c.loop-rest.lines.items c.push_unless_there.new.lines.items c.loop-rest.rest.now c.cut.result.0.now c.cut.result.1.now _ some c.cut.ensures.first c.cut.ensures.rest c.in_ok-part.ensures.lines c.loop-rest.invariant.text;
    }

pub returns : goal.returns
returns c = no_line (line_without c.args.other.now) c.loop-rest.lines.items c.loop-rest.rest.now _ (no_bytes c.loop-rest.rest.now c.is_empty.result c.is_empty.ensures c.loop-rest-test.false) c.loop-rest.invariant.text
