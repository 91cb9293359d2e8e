use Rattle.of_history.{specs.Selected.entry_selected, proofs.EntryLemmas.entry_more, proofs.EntryLemmas.no_entry}
use Rattle.of_history.proofs.entries.EntriesView.push_entries.Goals as goal

pub loop-entry-preserved : goal.loop-entry-preserved
loop-entry-preserved g c =
    entry_more (entry_selected c.args.self.now.filter c.args.self.now.fields c.args.switch.now.core.forwarding c.args.moment c.args.table) c.loop-entry.out.items c.push_entry.new.out.items _
    c.in-Some.entry.now c.loop-entry.entry-iterator c.next.new.self c.in-Some.ensures.steps c.in_ok-push_entry.ensures c.loop-entry.invariant

pub returns : goal.returns
returns g c =
    no_entry (entry_selected c.args.self.now.filter c.args.self.now.fields c.args.switch.now.core.forwarding c.args.moment c.args.table) c.loop-entry.out.items _ c.loop-entry.entry-iterator c.in-None.ensures.steps.0 c.loop-entry.invariant
