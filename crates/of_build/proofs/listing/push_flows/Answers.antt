use Rattle.std.proofs.Common.{List, ℕ, ◌∷◌, [], ◌++◌, ◌∙◌, ap, arith}
use Rattle.of_build.proofs.ListingLemmas.{entries_next, adds_next}
use Rattle.of_build.proofs.listing.push_flows.Goals as goal

pub flow_message-requires : goal.flow_message-requires
flow_message-requires c = (entries_next c.args.table c.args.flows.now c.loop-flow.flow-index c.flow-item.result (omega arith) c.flow-item.is c.loop-flow.invariant.entries).0

pub loop-flow-preserved : goal.loop-flow-preserved
loop-flow-preserved c = record {
  count = omega (arith, c.loop-flow.invariant.count);
  entries = (entries_next c.args.table c.args.flows.now c.loop-flow.flow-index c.flow-item.result (omega arith) c.flow-item.is c.loop-flow.invariant.entries).1;
  messages = adds_next c.args.flows.now c.loop-flow.flow-index c.loop-flow.next c.flow-item.result _ _ _ (omega arith) c.flow-item.is (c.in_ok-push.ensures.items ∙ ap (λ (m : List ℕ). c.loop-flow.out.items ++ m ∷ []) c.in_ok-flow_message.ensures) c.loop-flow.invariant.messages;
}
