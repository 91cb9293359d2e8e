use Rattle.of_datapath.proofs.ConfiguringLemmas.{entry_more, entry_kept, none_more, all_kept}
use Rattle.of_datapath.proofs.configuring.flows_text.Goals as goal

pub loop-entry-preserved : goal.loop-entry-preserved
loop-entry-preserved c = record {
  made = entry_more c.args.table c.loop-entry.flows.items c.push.new.self.items _ c.in-Some.entry.now c.loop-entry.entry-iterator c.next.new.self _ c.in-Some.ensures.steps c.in_ok-flow_text.ensures.text c.in_ok-push.ensures.items c.loop-entry.invariant.made;
  kept = entry_kept c.args.table c.in-Some.entry.now c.loop-entry.entry-iterator c.next.new.self _ c.in-Some.ensures.steps c.in_ok-flow_text.ensures.kept c.loop-entry.invariant.kept;
}

pub returns-clause-text : goal.returns-clause-text
returns-clause-text c = none_more c.args.table _ c.loop-entry.entry-iterator _ c.in-None.ensures.steps.0 c.loop-entry.invariant.made

pub returns-clause-kept : goal.returns-clause-kept
returns-clause-kept c = all_kept c.args.table c.loop-entry.entry-iterator _ c.in-None.ensures.steps.0 c.loop-entry.invariant.kept
