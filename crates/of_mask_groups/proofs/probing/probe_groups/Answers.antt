use Rattle.std.proofs.Common.{ℕ, List, take, take_all, sym, ◌∙◌, subst}
use Rattle.of_headers.specs.FieldMap.{value}
use Rattle.of_mask_groups.specs.{declared.group.Group.Group, Covering.IsBestOf, Probed.AreProbed, Probed.IsDone}
use Rattle.of_mask_groups.proofs.{Searching.none_probed, Searching.one_more_group, Searching.first_probes, Searching.all_probes, Winning.all_done, Winning.above_done}
use Rattle.of_mask_groups.proofs.probing.probe_groups.Goals as goal

pub loop-group-init : goal.loop-group-init
loop-group-init c = none_probed c.args.entries.now (value c.args.key.now)

pub loop-group-preserved : goal.loop-group-preserved
loop-group-preserved c =
    let s = c.args.entries.now in
    one_more_group s c.args.groups.now (value c.args.key.now) c.loop-group.group-index c.group-item.result c.loop-group.best c.best_among-best.result c.loop-group.probes c.probe-numbers.new.probes c.masked.result c.requires c.loop-group-test.true c.group-item.is
    (sym c.is_above.ensures ∙ c.if-is_above.false) c.masked.ensures
    (subst (λ (ns : List ℕ). IsBestOf s (value c.args.key.now) c.loop-group.best ns c.best_among-best.result) c.probe-numbers.ensures.numbers c.best_among-best.ensures)
    c.probe-numbers.ensures.counted c.loop-group.invariant

pub returns-then-is_above-clause-probed : goal.returns-then-is_above-clause-probed
returns-then-is_above-clause-probed c =
    subst (λ (done : List Group). AreProbed c.args.entries.now (value c.args.key.now) done c.loop-group.best c.loop-group.probes)
    (first_probes c.args.groups.now c.loop-group.group-index c.loop-group.probes c.loop-group-test.true c.loop-group.invariant.count) c.loop-group.invariant

pub returns-then-is_above-clause-done : goal.returns-then-is_above-clause-done
returns-then-is_above-clause-done c =
    subst (λ (done : List Group). IsDone c.args.groups.now done c.loop-group.best)
    (first_probes c.args.groups.now c.loop-group.group-index c.loop-group.probes c.loop-group-test.true c.loop-group.invariant.count)
    (above_done c.args.groups.now c.loop-group.group-index c.group-item.result c.loop-group.best c.requires.falling c.loop-group-test.true c.group-item.is (sym c.is_above.ensures ∙ c.if-is_above.true))

pub returns-clause-probed : goal.returns-clause-probed
returns-clause-probed c =
    subst (λ (done : List Group). AreProbed c.args.entries.now (value c.args.key.now) done c.loop-group.best c.loop-group.probes)
    (all_probes c.args.groups.now c.loop-group.group-index c.loop-group.probes c.loop-group-test.false c.loop-group.invariant.count) c.loop-group.invariant

pub returns-clause-done : goal.returns-clause-done
returns-clause-done c =
    subst (λ (done : List Group). IsDone c.args.groups.now done c.loop-group.best)
    (all_probes c.args.groups.now c.loop-group.group-index c.loop-group.probes c.loop-group-test.false c.loop-group.invariant.count)
    (all_done c.args.groups.now (take c.loop-group.group-index c.args.groups.now) c.loop-group.best (take_all c.loop-group.group-index c.args.groups.now c.loop-group-test.false))
