use Rattle.of_text.proofs.LineLemmas.{some_bytes, no_bytes}
use Rattle.of_json.{specs.Strings.line_string, proofs.LineLemmas.next_string, proofs.LineLemmas.no_strings}
use Rattle.of_json.proofs.lines.push_further_lines.Goals as goal

pub loop-rest-preserved : goal.loop-rest-preserved
loop-rest-preserved c = next_string (line_string c.args.indent) c.loop-rest.out.items c.push.new.self.items c.push_line.new.out.items c.loop-rest.rest.now c.cut.result.0.now c.cut.result.1.now _ (some_bytes c.loop-rest.rest.now c.is_empty.result c.is_empty.ensures c.loop-rest-test.true) c.cut.ensures.first c.cut.ensures.rest c.in_ok-push.ensures.items c.in_ok-push_line.ensures c.loop-rest.invariant

pub returns : goal.returns
returns c = no_strings (line_string c.args.indent) c.loop-rest.out.items c.loop-rest.rest.now _ (no_bytes c.loop-rest.rest.now c.is_empty.result c.is_empty.ensures c.loop-rest-test.false) c.loop-rest.invariant
