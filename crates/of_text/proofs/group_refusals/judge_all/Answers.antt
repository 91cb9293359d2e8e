use Rattle.std.proofs.Common.{◌∙◌, refl, ap, arith}
use Rattle.of_text.specs.{Refusals.counted_as, Refusals.group_refusals, Refusals.there_from, Judging.codes_from, Views.view_group, Views.view_groups}
use Rattle.of_text.proofs.{PushLemmas.all_written, JudgeLemmas.there_next, JudgeLemmas.codes_next, WriteLemmas.group_fits}
use Rattle.of_wire.specs.Refusals.{first_of}
use Rattle.of_text.proofs.group_refusals.judge_all.Goals as goal

pub judge-requires : goal.judge-requires
judge-requires c = (group_fits c.args.groups.now c.loop-group.group-index c.group-item.result (omega arith) c.group-item.is c.loop-group.invariant.fits).0

pub loop-group-preserved : goal.loop-group-preserved
loop-group-preserved c =
    let count = c.len.ensures ∙ c.loop-group.invariant.count in
    record {
      fits = (group_fits c.args.groups.now c.loop-group.group-index c.group-item.result (omega arith) c.group-item.is c.loop-group.invariant.fits).1;
      count = omega (arith, c.in_ok-push.ensures.len, c.loop-group.invariant.count);
      there = there_next c.args.groups.now c.loop-group.group-index c.group-item.result c.in_ok-counted.counted _ _ _ (omega arith) c.group-item.is (c.in_ok-counted.ensures.there ∙ ap (λ n. counted_as n (view_group c.group-item.result)) count) c.in_ok-push.ensures.items c.loop-group.invariant.there;
      codes = codes_next c.args.groups.now c.loop-group.group-index c.group-item.result c.in_ok-counted.code _ _ _ (omega arith) c.group-item.is (c.in_ok-counted.ensures.code ∙ ap (λ n. first_of (group_refusals n (view_group c.group-item.result))) count) c.in_ok-push-2.ensures.items c.loop-group.invariant.codes;
    }

pub returns-clause-there : goal.returns-clause-there
returns-clause-there c =
    all_written (λ gs. there_from c.loop-group.group-index (view_groups gs)) c.loop-group.there.items _ c.args.groups.now c.loop-group.group-index c.loop-group-test.false refl c.loop-group.invariant.there

pub returns-clause-codes : goal.returns-clause-codes
returns-clause-codes c =
    all_written (λ gs. codes_from c.loop-group.group-index (view_groups gs)) c.loop-group.codes.items _ c.args.groups.now c.loop-group.group-index c.loop-group-test.false refl c.loop-group.invariant.codes
