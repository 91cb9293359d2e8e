use Rattle.of_headers.specs.FieldMap.{value}
use Rattle.of_cache.proofs.Splitting.{first_hit}
use Rattle.of_cache.proofs.keeping.first_answer.Goals as goal

pub returns-then-holds : goal.returns-then-holds
returns-then-holds c = first_hit c.args.rows.now.entries c.in-Some.region.now c.in-Some.answer.now (value c.args.key.now) c.in-Some.ensures (c.holds.ensures c.if-holds.true)
