use Rattle.of_text.proofs.FillLemmas.{put_there}
use Rattle.of_text.proofs.config.put_flow.Goals as goal

pub returns : goal.returns
returns c = rw c.from-table.ensures (put_there c.args.tables.now.items c.index_mut.result.now c.push.new.self _ c.args.flow c.requires (rw c.from-table.ensures at c.index_mut.ensures.value) c.in_ok-push.ensures.items)
