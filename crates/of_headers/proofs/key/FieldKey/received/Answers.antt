use Rattle.of_headers.proofs.KeyLemmas.{at_port}
use Rattle.of_headers.proofs.key.FieldKey.received.Goals as goal

pub returns : goal.returns
returns c = λ l port before is. rw (← c.from.ensures, ← c.from-2.ensures) (at_port l port before c.from.result c.from-2.result _ _ _ is c.with.ensures c.with-2.ensures)
