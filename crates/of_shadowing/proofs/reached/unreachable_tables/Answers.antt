use Rattle.std.proofs.Common.{◌≡◌, ◌∙◌, [], Some, None, true, sym}
use Rattle.std.specs.Prelude.{find}
use Rattle.of_shadowing.proofs.ReachedLemmas.{begun, done, found, shorter, went_on}
use Rattle.of_shadowing.specs.Reached.{is_table_among, is_led_from_others, leaves_open}
use Rattle.of_shadowing.proofs.reached.unreachable_tables.Goals as goal

pub loop-table-init : goal.loop-table-init
loop-table-init c = record { known = sym c.leaves_open.ensures ∙ c.if-leaves_open.false; rest = rw c.in_ok-tables.ensures (begun c.args.flows.now) }

pub loop-table-preserved : goal.loop-table-preserved
loop-table-preserved c =
    let so : find (is_led_from_others c.args.flows.now c.loop-table.tables.items) c.loop-table.tables.items ≡ Some c.in-Some.table = sym (rw c.deref.ensures.value at c.next_reached.ensures) ∙ c.in-Some.is in
    record { known = c.loop-table.invariant.known; rest = rw c.remove.ensures (went_on c.args.flows.now c.loop-table.tables.items c.in-Some.table c.loop-table.invariant.rest so) }

pub loop-table-smaller : goal.loop-table-smaller
loop-table-smaller c =
    let so : find (is_led_from_others c.args.flows.now c.loop-table.tables.items) c.loop-table.tables.items ≡ Some c.in-Some.table = sym (rw c.deref.ensures.value at c.next_reached.ensures) ∙ c.in-Some.is in
    rw c.remove.ensures (shorter c.in-Some.table c.loop-table.tables.items (found (is_led_from_others c.args.flows.now c.loop-table.tables.items) c.loop-table.tables.items c.in-Some.table so).0)

pub returns-then-leaves_open : goal.returns-then-leaves_open
returns-then-leaves_open c =
    let anywhere : leaves_open c.args.flows.now ≡ true = sym c.leaves_open.ensures ∙ c.if-leaves_open.true in
    λ t. (λ e. let none : is_table_among [] t ≡ true = rw c.new.ensures.items at e in absurd cc, λ h. let not_so = h.0 in absurd cc)

pub returns : goal.returns
returns c =
    let none : find (is_led_from_others c.args.flows.now c.loop-table.tables.items) c.loop-table.tables.items ≡ None = sym (rw c.deref.ensures.value at c.next_reached.ensures) ∙ c.in_default.is in
    λ t.
    let d = done c.args.flows.now c.loop-table.tables.items c.loop-table.invariant.rest none t in
    (λ e. let h = d.0 e in (c.loop-table.invariant.known, h.0, h.1), λ h. d.1 (h.1, h.2))
