use Rattle.std.proofs.Common.{sym}
use Rattle.of_symbolic.proofs.PartLemmas.{unmatched_apart, unmatched_listed, unmatched_more}
use Rattle.of_symbolic.proofs.part.Part.unmatched.Goals as goal

pub returns-then-are_apart : goal.returns-then-are_apart
returns-then-are_apart c = unmatched_apart c.args.fields.now.items c.args.self (rw (sym c.deref.ensures.value, sym c.deref-2.ensures.value) (c.are_apart.ensures c.if-are_apart.true))

pub returns-then-is_listed : goal.returns-then-is_listed
returns-then-is_listed c = unmatched_listed c.args.fields.now.items c.args.self (rw (sym c.deref-3.ensures.value, sym c.deref-4.ensures.value) (c.is_listed.ensures.0 c.if-is_listed.true))

pub returns : goal.returns
returns c =
    unmatched_more c.args.fields.now.items c.args.self (record { regions = c.in_ok-left_regions.field-0; lacks = c.push.new.self }) c.in_ok-copied_conditions.field-0
    (rw (sym c.deref-5.ensures.value, sym c.deref-6.ensures.value) c.in_ok-left_regions.ensures) c.in_ok-push.ensures.items c.in_ok-copied_conditions.ensures c.requires
