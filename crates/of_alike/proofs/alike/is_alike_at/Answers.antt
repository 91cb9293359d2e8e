use Rattle.std.proofs.Common.{◌≡◌, ◌<◌, true, false, List, length}
use Rattle.std.specs.Borrow.{Bor}
use Rattle.of_machine.specs.declared.data.Item.{Item}
use Rattle.of_alike.{specs.Alike.leaving, proofs.AlikeLemmas.tells_alike}
use Rattle.of_symbolic_run.proofs.Pairing.{first_longer, pairing_parts, pairing_told}
use Rattle.of_alike.proofs.alike.is_alike_at.Goals as goal

pub returns-in_default-next_to : goal.returns-in_default-next_to
returns-in_default-next_to c =
    let there = leaving c.args.at in
    tells_alike c.args.at c.args.a.now c.args.b.now false
    (λ h. absurd cc, λ h. absurd (first_longer (there c.args.a.now) (there c.args.b.now) (there c.loop-item.left.now) (there c.loop-item.right.now) c.loop-item.invariant c.in-Some.item.now _ c.in-Some.ensures.some.0 c.in_default-next_to.ensures.none h))

pub returns-then-not-is_same_item : goal.returns-then-not-is_same_item
returns-then-not-is_same_item c =
    let there = leaving c.args.at in
    tells_alike c.args.at c.args.a.now c.args.b.now false (
      λ h. absurd cc,
      λ h. absurd (pairing_parts (there c.args.a.now) (there c.args.b.now) (there c.loop-item.left.now) (there c.loop-item.right.now) c.loop-item.invariant c.in-Some.item.now c.in-Some-next_to.other.now _ _
          c.in-Some.ensures.some.0 c.in-Some-next_to.ensures.some.0
          (λ same. let yes : c.is_same_item.result ≡ true = c.is_same_item.ensures.1 same in let no = c.if-not-is_same_item.true in absurd cc) h),
    )

pub returns : goal.returns
returns c =
    let there = leaving c.args.at in
    tells_alike c.args.at c.args.a.now c.args.b.now c.is_none.result
    (pairing_told (there c.args.a.now) (there c.args.b.now) (there c.loop-item.left.now) (there c.loop-item.right.now) c.loop-item.invariant c.in_default.ensures.none (λ (y : Bor Item × Bor (List Item)). y.0.now) (λ y. there y.1.now)
    (λ y. length y.1.now < length c.loop-item.right.now) c.next_to-2.result c.next_to-2.ensures.some c.next_to-2.ensures.none c.is_none.result c.is_none.ensures)
