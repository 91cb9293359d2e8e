use Rattle.std.proofs.Common.{◌≡◌, ◌∷◌, sym}
use Rattle.of_datapath.proofs.Telling.{told_one, told_none, short_left}
use Rattle.of_datapath.proofs.told.told_from.Goals as goal

pub loop-item-preserved-in-Continue-1 : goal.loop-item-preserved-in-Continue-1
loop-item-preserved-in-Continue-1 c =
    let split : c.loop-item.item-iterator ≡ c.in-Some.item ∷ c.next.new.self = c.in-Some.ensures.steps in
    let so = rw split at c.loop-item.invariant in (
      tt,
      tt,
      c.in_ok-tell.ensures.most,
      short_left c.in-Some.item c.next.new.self so.3,
      told_one c.args.heard c.args.ports.now _ _ _ _ _ c.in-Some.item c.next.new.self _ _ _ (sym c.if-is_given.ensures) so.4 c.in_ok-tell.ensures.next c.in_ok-tell.ensures.effects c.in_ok-tell.ensures.held,
    )

pub loop-item-preserved : goal.loop-item-preserved
loop-item-preserved c =
    let split : c.loop-item.item-iterator ≡ c.in-Some.item ∷ c.next.new.self = c.in-Some.ensures.steps in
    let so = rw split at c.loop-item.invariant in (
      tt,
      tt,
      so.2,
      short_left c.in-Some.item c.next.new.self so.3,
      told_none c.args.heard c.args.ports.now _ _ _ _ _ c.in-Some.item c.next.new.self (sym c.if-is_given.ensures) so.4,
    )
