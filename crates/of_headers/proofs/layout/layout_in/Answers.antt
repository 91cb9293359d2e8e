use Rattle.of_headers.proofs.LayoutLemmas.{layout_is}
use Rattle.of_headers.proofs.layout.layout_in.Goals as goal

pub returns : goal.returns
returns c = layout_is c.args.frame.now c.tags_in-tags.result c.network_in.result c.tags_in-tags.ensures.count (rw (c.word_at.ensures, c.rest_from.ensures) at c.network_in.ensures)
