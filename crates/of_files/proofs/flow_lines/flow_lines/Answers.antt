use Rattle.std.proofs.Common.{◌<◌, refl, length, arith}
use Rattle.of_text.proofs.LineLemmas.{some_bytes, no_bytes}
use Rattle.of_files.{specs.FlowLines.flow_lines, proofs.LineLemmas.next_number, proofs.LineLemmas.no_more}
use Rattle.of_files.proofs.flow_lines.flow_lines.Goals as goal

pub loop-rest-init : goal.loop-rest-init
unfolding flow_lines
loop-rest-init c = record { found = rw c.new-numbers.ensures.items refl; count = omega arith }

pub loop-rest-preserved : goal.loop-rest-preserved
loop-rest-preserved c =
    let some : 0 < length c.loop-rest.rest.now = some_bytes c.loop-rest.rest.now c.is_empty.result c.is_empty.ensures c.loop-rest-test.true in
    record {
      found = next_number c.args.table c.loop-rest.number c.begins_flow.result c.loop-rest.numbers.items c.push_if.new.numbers.items c.loop-rest.rest.now c.cut.result.0.now c.cut.result.1.now (flow_lines c.args.table c.args.text.now)
          some c.cut.ensures.first c.cut.ensures.rest c.begins_flow.ensures c.in_ok-push_if.ensures c.loop-rest.invariant.found;
      count = omega (arith, some, c.loop-rest.invariant.count, c.cut.ensures.shorter);
    }

pub returns : goal.returns
returns c =
    let none = no_bytes c.loop-rest.rest.now c.is_empty.result c.is_empty.ensures c.loop-rest-test.false in
    no_more c.args.table c.loop-rest.number c.loop-rest.numbers.items c.loop-rest.rest.now (flow_lines c.args.table c.args.text.now) none c.loop-rest.invariant.found
