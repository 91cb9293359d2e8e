use Rattle.of_headers.proofs.PresenceLemmas.{value_none, value_some}
use Rattle.of_headers.proofs.key.FieldKey.get.Goals as goal

pub returns-then-self-bit-eq0 : goal.returns-then-self-bit-eq0
returns-then-self-bit-eq0 c = value_none c.args.self.now c.args.field (rw c.bit.ensures at c.if-self-bit-eq0.true)

pub returns : goal.returns
returns c = value_some c.args.self.now c.args.field c.get.result c.get.ensures (rw c.bit.ensures at c.if-self-bit-eq0.false)
