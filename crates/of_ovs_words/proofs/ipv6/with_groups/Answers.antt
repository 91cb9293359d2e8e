use Rattle.std.proofs.Common.{◌∙◌, ◌<◌, sym, ap, length, cond, Bool, List, ℕ}
use Rattle.std.specs.Prelude.{None, Some}
use Rattle.of_ovs_words.{specs.Ipv6.pieces, specs.Ipv6.with_groups, proofs.WordLemmas.some_bytes, proofs.WordLemmas.no_bytes}
use Rattle.of_ovs_words.proofs.PieceLemmas.{groups_more, groups_stop, groups_end}
use Rattle.of_ovs_words.proofs.ipv6.with_groups.Goals as goal

pub loop-rest-preserved : goal.loop-rest-preserved
loop-rest-preserved c =
    let some : 0 < length c.loop-rest.rest.now = some_bytes c.loop-rest.rest.now c.is_empty.result c.is_empty.ensures c.loop-rest-test.true in
    c.loop-rest.invariant ∙ (groups_more c.args.missing c.loop-rest.wanted c.loop-rest.value c.in-Some.next c.loop-rest.rest.now c.cut.result.0.now c.cut.result.1.now some c.cut.ensures.first c.cut.ensures.rest c.in-Some.ensures ∙ ap (λ (w : Bool). with_groups c.args.missing w c.in-Some.next (pieces c.cut.result.1.now)) (sym c.is_wanted-wanted.ensures))

pub returns-in-None : goal.returns-in-None
returns-in-None c =
    let some : 0 < length c.loop-rest.rest.now = some_bytes c.loop-rest.rest.now c.is_empty.result c.is_empty.ensures c.loop-rest-test.true in
    sym (c.loop-rest.invariant ∙ groups_stop c.args.missing c.loop-rest.wanted c.loop-rest.value c.loop-rest.rest.now c.cut.result.0.now c.cut.result.1.now some c.cut.ensures.first c.cut.ensures.rest c.in-None.ensures)

pub returns-then-wanted : goal.returns-then-wanted
returns-then-wanted c =
    let none = no_bytes c.loop-rest.rest.now c.is_empty.result c.is_empty.ensures c.loop-rest-test.false in
    sym (c.loop-rest.invariant ∙ (ap (λ (x : List ℕ). with_groups c.args.missing c.loop-rest.wanted c.loop-rest.value (pieces x)) none ∙ (groups_end c.args.missing c.loop-rest.wanted c.loop-rest.value ∙ ap (λ (w : Bool). cond w None (Some c.loop-rest.value)) c.if-wanted.true)))

pub returns-else-wanted : goal.returns-else-wanted
returns-else-wanted c =
    let none = no_bytes c.loop-rest.rest.now c.is_empty.result c.is_empty.ensures c.loop-rest-test.false in
    sym (c.loop-rest.invariant ∙ (ap (λ (x : List ℕ). with_groups c.args.missing c.loop-rest.wanted c.loop-rest.value (pieces x)) none ∙ (groups_end c.args.missing c.loop-rest.wanted c.loop-rest.value ∙ ap (λ (w : Bool). cond w None (Some c.loop-rest.value)) c.if-wanted.false)))
