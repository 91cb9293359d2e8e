use Rattle.of_text.proofs.LineLemmas.{some_bytes, no_bytes}
use Rattle.of_json.{specs.Strings.line_string, proofs.LineLemmas.none_listed, proofs.LineLemmas.some_listed}
use Rattle.of_json.proofs.lines.push_line_strings.Goals as goal

pub returns-then-is_empty : goal.returns-then-is_empty
returns-then-is_empty c = none_listed (line_string c.args.indent) c.args.out.now.items c.args.text.now (no_bytes c.args.text.now c.is_empty.result c.is_empty.ensures c.if-is_empty.true)

pub returns : goal.returns
returns c = some_listed (line_string c.args.indent) c.push_further_lines.result c.args.out.now.items c.push_line.new.out.items c.push_further_lines.new.out.items c.args.text.now c.cut.result.0.now c.cut.result.1.now (some_bytes c.args.text.now c.is_empty.result c.is_empty.ensures c.if-is_empty.false) c.cut.ensures.first c.cut.ensures.rest c.in_ok-push_line.ensures c.push_further_lines.ensures
