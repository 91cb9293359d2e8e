use Rattle.std.proofs.Common.{◌≡◌, ◌∙◌, ◌<◌, ◌+◌, sym, ap, length, arith}
use Rattle.of_ovs_words.{specs.Ipv6.pieces, specs.Ipv6.group_count, proofs.WordLemmas.some_bytes, proofs.WordLemmas.no_bytes}
use Rattle.of_ovs_words.proofs.PieceLemmas.{count_more, count_same, count_end}
use Rattle.of_ovs_words.proofs.ipv6.count_groups.Goals as goal

pub loop-rest-preserved-then-not-is_empty : goal.loop-rest-preserved-then-not-is_empty
loop-rest-preserved-then-not-is_empty c =
    let some : 0 < length c.loop-rest.rest.now = some_bytes c.loop-rest.rest.now c.is_empty.result c.is_empty.ensures c.loop-rest-test.true in
    record {
      count = c.loop-rest.invariant.count ∙ count_more c.loop-rest.rest.now c.cut.result.0.now c.cut.result.1.now c.loop-rest.count some c.cut.ensures.first c.cut.ensures.rest (sym c.is_empty-in-loop-rest.ensures ∙ c.if-not-is_empty.true);
      small = omega (arith, some, c.loop-rest.invariant.small, c.cut.ensures.shorter);
    }

pub loop-rest-preserved : goal.loop-rest-preserved
loop-rest-preserved c =
    let some : 0 < length c.loop-rest.rest.now = some_bytes c.loop-rest.rest.now c.is_empty.result c.is_empty.ensures c.loop-rest-test.true in
    record {
      count = c.loop-rest.invariant.count ∙ count_same c.loop-rest.rest.now c.cut.result.0.now c.cut.result.1.now c.loop-rest.count some c.cut.ensures.first c.cut.ensures.rest (sym c.is_empty-in-loop-rest.ensures ∙ c.if-not-is_empty.false);
      small = omega (arith, some, c.loop-rest.invariant.small, c.cut.ensures.shorter);
    }

pub returns-clause-value : goal.returns-clause-value
returns-clause-value c =
    let none = no_bytes c.loop-rest.rest.now c.is_empty.result c.is_empty.ensures c.loop-rest-test.false in
    let all : group_count (pieces c.args.word.now) ≡ c.loop-rest.count + 0 = c.loop-rest.invariant.count ∙ ap (λ n. c.loop-rest.count + n) (ap (λ x. group_count (pieces x)) none ∙ count_end) in
    omega (arith, all)
