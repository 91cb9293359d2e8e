use Rattle.std.proofs.Common.{◌∙◌, sym}
use Rattle.of_text.proofs.LineLemmas.{some_bytes, no_bytes}
use Rattle.of_ovs_lines.proofs.PortNameLemmas.{number_at_end, number_found, number_later}
use Rattle.of_ovs_lines.proofs.port_names.number_or.Goals as goal

pub returns-then-lists_port : goal.returns-then-lists_port
returns-then-lists_port c = c.listed_number.ensures ∙ sym (c.loop-rest.invariant ∙ number_found c.args.word.now c.args.name.now c.loop-rest.rest.now c.cut.result.0.now (some_bytes c.loop-rest.rest.now c.is_empty.result c.is_empty.ensures c.loop-rest-test.true) c.cut.ensures.first (sym c.lists_port.ensures ∙ c.if-lists_port.true))

pub loop-rest-preserved : goal.loop-rest-preserved
loop-rest-preserved c = c.loop-rest.invariant ∙ number_later c.args.word.now c.args.name.now c.loop-rest.rest.now c.cut.result.0.now c.cut.result.1.now (some_bytes c.loop-rest.rest.now c.is_empty.result c.is_empty.ensures c.loop-rest-test.true) c.cut.ensures.first c.cut.ensures.rest (sym c.lists_port.ensures ∙ c.if-lists_port.false)

pub returns : goal.returns
returns c = sym (c.loop-rest.invariant ∙ number_at_end c.args.word.now c.args.name.now c.loop-rest.rest.now (no_bytes c.loop-rest.rest.now c.is_empty.result c.is_empty.ensures c.loop-rest-test.false))
