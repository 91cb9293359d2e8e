use Rattle.std.proofs.{Common.rules, Common.tests, lemmas.Iterator.YieldsList-from_slice, lemmas.Iterator.Consumers.count_from_yields_List, lemmas.Iterator.Consumers.YieldsList-from_filter}
use Rattle.of_import.specs.KeptViews.{loses_action}
use Rattle.of_import.proofs.notes.count_lines.Goals as goal

pub returns : goal.returns
returns c = count_from_yields_List c.filter.result _ c.count.ensures.ran (YieldsList-from_filter _ loses_action (YieldsList-from_slice c.args.flows.now (cc)) c.filter.ensures.closure (λ x b q k. search (rules, tests)))
