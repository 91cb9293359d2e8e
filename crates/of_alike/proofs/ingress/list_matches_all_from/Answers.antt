use Rattle.std.proofs.Common.{sym}
use Rattle.of_alike.proofs.IngressPortLemmas.{none_by_list}
use Rattle.of_alike.proofs.ingress.list_matches_all_from.Goals as goal

pub returns-then-match_all_from : goal.returns-then-match_all_from
returns-then-match_all_from c = λ yes.
    none_by_list c.args.lacks.now c.args.region.now c.args.port c.index-lacks-index.result c.deref.result.now (c.loop-index.index, c.loop-index-test.true, sym c.index-lacks-index.is) c.deref.ensures.value
    (c.match_all_from.ensures c.if-match_all_from.true)
