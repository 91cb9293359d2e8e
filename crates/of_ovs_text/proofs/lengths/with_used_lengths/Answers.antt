use Rattle.std.specs.List.{flat_map}
use Rattle.of_text.{specs.Lines.lines_of, proofs.LineLemmas.some_bytes, proofs.LineLemmas.no_bytes}
use Rattle.of_ovs_text.{specs.Lengths.line_with_used_length, specs.Lengths.with_used_lengths, proofs.PushLemmas.no_line, proofs.PushLemmas.one_line}
use Rattle.of_ovs_text.proofs.lengths.with_used_lengths.Goals as goal

pub loop-rest-preserved : goal.loop-rest-preserved
loop-rest-preserved c =
    one_line line_with_used_length c.loop-rest.out.items c.push_with_used_length.new.out.items c.loop-rest.rest.now c.cut.result.0.now c.cut.result.1.now (flat_map line_with_used_length (lines_of c.args.text.now))
    (some_bytes c.loop-rest.rest.now c.is_empty.result c.is_empty.ensures c.loop-rest-test.true) c.cut.ensures.first c.cut.ensures.rest c.in_ok-push_with_used_length.ensures c.loop-rest.invariant

pub returns : goal.returns
unfolding with_used_lengths
returns c =
    no_line line_with_used_length c.loop-rest.out.items c.loop-rest.rest.now (flat_map line_with_used_length (lines_of c.args.text.now)) (no_bytes c.loop-rest.rest.now c.is_empty.result c.is_empty.ensures c.loop-rest-test.false) c.loop-rest.invariant
