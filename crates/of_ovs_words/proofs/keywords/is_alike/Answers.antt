use Rattle.std.proofs.Common.{length, ◌-◌, arith}
use Rattle.of_ovs_words.proofs.{WordLemmas.some_bytes, KeywordLemmas.alike_test}
use Rattle.of_ovs_words.proofs.keywords.is_alike.Goals as goal

pub returns-then-is_alike_at : goal.returns-then-is_alike_at
returns-then-is_alike_at c =
    let some = some_bytes c.args.word.now c.is_empty.result c.is_empty.ensures c.if-is_empty.false in
    alike_test c.args.padded.now c.args.word.now (length c.args.word.now - 1) c.is_alike_at-then-is_alike_at.result c.is_alike_at-then-is_alike_at.ensures (omega (arith, some))
