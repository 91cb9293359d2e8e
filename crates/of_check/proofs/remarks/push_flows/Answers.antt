use Rattle.std.proofs.Common.{◌++◌}
use Rattle.of_text.specs.Views.{view_flows}
use Rattle.of_check.{specs.Remarks.flows_remarks, proofs.RemarkLemmas.next_flow, proofs.RemarkLemmas.no_flows}
use Rattle.of_check.proofs.remarks.push_flows.Goals as goal

pub loop-place-preserved : goal.loop-place-preserved
loop-place-preserved c =
    let tables = c.args.config.now.tables in
    next_flow tables c.args.table c.loop-place.place c.args.flows.now c.index-flows-place.result c.loop-place.out.items c.push_flow.new.out.items (c.args.out.now.items ++ flows_remarks tables c.args.table 0 (view_flows c.args.flows.now))
    c.loop-place-test.true c.index-flows-place.is c.in_ok-push_flow.ensures c.loop-place.invariant

pub returns : goal.returns
returns c =
    let tables = c.args.config.now.tables in
    no_flows tables c.args.table c.loop-place.place c.args.flows.now c.loop-place.out.items (c.args.out.now.items ++ flows_remarks tables c.args.table 0 (view_flows c.args.flows.now)) c.loop-place-test.false c.loop-place.invariant
