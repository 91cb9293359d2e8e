use Rattle.std.proofs.Common.{ap, ◌∙◌, List, length, subst, arith}
use Rattle.std.specs.{Prelude.slice_get, Prelude.Bool, Global.Vec, List.Contains}
use Rattle.of_oxm.specs.declared.match_field.MatchField.{MatchField}
use Rattle.of_table.specs.Table.{FlowEntry}
use Rattle.of_diff.{specs.Changing.IsAskedIn, proofs.ChangingLemmas.asked_more}
use Rattle.of_diff.proofs.changing.changed_conditions.Goals as goal

pub returns-clause-first : goal.returns-clause-first
returns-clause-first g c = λ i e at mark.
    subst (λ (b : Bool). IsAskedIn b c.push_all_asked-2.new.asked.items c.args.packet.now.rewrites c.args.packet.now.metadata e) c.in_ok-overlay.ensures.inner
    (asked_more c.in_ok-overlay.overlay.inner c.push_all_asked.new.asked.items c.push_all_asked-2.new.asked.items c.args.packet.now.rewrites c.args.packet.now.metadata e c.in_ok-push_all_asked-2.ensures.more
    (c.in_ok-push_all_asked.ensures.asked c.if-not-branch.false c.args.packet.now.rewrites c.in_ok-overlay.ensures.is c.known.ensures i e (ap (λ (fs : List FlowEntry). slice_get fs i) c.entries-entries.ensures.flows ∙ at) (ap (λ (ms : List Bool). slice_get ms i) c.deref.ensures.value ∙ mark)))

pub returns-clause-second : goal.returns-clause-second
returns-clause-second g c = λ i e at mark.
    subst (λ (b : Bool). IsAskedIn b c.push_all_asked-2.new.asked.items c.args.packet.now.rewrites c.args.packet.now.metadata e) c.in_ok-overlay.ensures.inner
    (c.in_ok-push_all_asked-2.ensures.asked c.if-not-branch-2.false c.args.packet.now.rewrites c.in_ok-overlay.ensures.is c.known.ensures i e (ap (λ (fs : List FlowEntry). slice_get fs i) c.entries-entries-2.ensures.flows ∙ at) (ap (λ (ms : List Bool). slice_get ms i) c.deref-2.ensures.value ∙ mark))

pub returns-clause-conditions : goal.returns-clause-conditions
returns-clause-conditions g c =
    c.in_ok-push_all_asked-2.ensures.conditions (c.in_ok-push_all_asked.ensures.conditions (λ m there. absurd (let none = subst (λ (l : List (Vec MatchField)). Contains l m) c.new-asked.ensures.items there in let lt = none.1 in omega (arith, lt))))

pub returns-clause-few : goal.returns-clause-few
returns-clause-few g c =
    let one = c.in_ok-push_all_asked.ensures.few c.if-not-branch.false in
    let two = c.in_ok-push_all_asked-2.ensures.few c.if-not-branch-2.false in
    omega (arith, one, two, ap length c.entries-entries.ensures.flows, ap length c.entries-entries-2.ensures.flows, ap length c.new-asked.ensures.items)
