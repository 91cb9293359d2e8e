use Rattle.of_text.specs.Lines.{lines_of}
use Rattle.of_ovs_words.proofs.WordLemmas.{some_bytes, no_bytes}
use Rattle.of_ovs_lines.proofs.PortNameLemmas.{numbers_at_end, numbers_step}
use Rattle.of_ovs_lines.proofs.port_names.with_port_numbers.Goals as goal

pub loop-rest-preserved : goal.loop-rest-preserved
loop-rest-preserved c = numbers_step (lines_of c.args.list.now) c.loop-rest.here c.comes_before_port-here.result c.loop-rest.out.items c.push_token.new.out.items _ c.loop-rest.rest.now c.cut_token.result.0.now c.cut_token.result.1.now c.cut_token.result.2.now (some_bytes c.loop-rest.rest.now c.is_empty.result c.is_empty.ensures c.loop-rest-test.true) c.cut_token.ensures.word c.cut_token.ensures.end c.cut_token.ensures.rest c.in_ok-push_token.ensures c.comes_before_port-here.ensures c.loop-rest.invariant

pub returns : goal.returns
returns c = numbers_at_end (lines_of c.args.list.now) c.loop-rest.here c.loop-rest.out.items _ c.loop-rest.rest.now (no_bytes c.loop-rest.rest.now c.is_empty.result c.is_empty.ensures c.loop-rest-test.false) c.loop-rest.invariant
