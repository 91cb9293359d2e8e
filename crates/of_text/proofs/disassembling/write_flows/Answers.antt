use Rattle.std.proofs.Common.{refl, arith}
use Rattle.of_text.{specs.Views.view_flows, proofs.WriteLemmas.flow_fits, proofs.WriteLemmas.flow_written, proofs.WriteLemmas.flows_text, proofs.PushLemmas.all_written}
use Rattle.of_text.proofs.disassembling.write_flows.Goals as goal

pub write_flow-requires : goal.write_flow-requires
write_flow-requires c = (flow_fits c.args.flows.now c.loop-flow.flow-index c.flow-item.result (omega arith) c.flow-item.is c.loop-flow.invariant.fits).0

pub loop-flow-preserved : goal.loop-flow-preserved
loop-flow-preserved c = record {
  fits = (flow_fits c.args.flows.now c.loop-flow.flow-index c.flow-item.result (omega arith) c.flow-item.is c.loop-flow.invariant.fits).1;
  text = flow_written c.args.flows.now c.loop-flow.flow-index c.flow-item.result _ _ _ (omega arith) c.flow-item.is c.in_ok-write_flow.ensures c.loop-flow.invariant.text;
}

pub returns : goal.returns
returns c = all_written (λ fs. flows_text (view_flows fs)) c.loop-flow.out.items _ c.args.flows.now c.loop-flow.flow-index c.loop-flow-test.false refl c.loop-flow.invariant.text
