use Rattle.of_text.proofs.ConfigLemmas.{canonical_encodes}
use Rattle.of_text.proofs.disassembling.assemble_again.Goals as goal

pub returns : goal.returns
returns c = c.assemble.ensures.only c.args.config.now (rw (c.deref.ensures.value, c.in-Ok.ensures) (canonical_encodes c.args.config.now c.known.ensures.config))
