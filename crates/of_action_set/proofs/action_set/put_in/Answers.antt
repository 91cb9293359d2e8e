use Rattle.std.proofs.Common.{◌≡◌, ◌≤◌, ◌∙◌, length, arith, ap, sym, refl}
use Rattle.std.proofs.lemmas.List.{take_at}
use Rattle.of_action_set.proofs.Ranked.{below, is_there, replaced_is_put, inserted_is_put, length-filter_le}
use Rattle.of_action_set.specs.Sets.{rank}
use Rattle.of_action_set.proofs.action_set.put_in.Goals as goal

pub insert-requires : goal.insert-requires
insert-requires g c =
    let items = c.args.actions.now.items in
    let place : c.place_of-place.result ≡ length (below rank (rank c.args.action) c.args.actions.now.items) = c.place_of-place.ensures ∙ rw (c.deref.ensures.0, c.rank-kind.ensures.rank) refl in
    let there : c.is_at.result ≡ is_there rank c.args.action c.args.actions.now.items = c.is_at.ensures ∙ rw (c.deref-2.ensures.0, place, c.rank-kind.ensures.rank) refl in
    let r = inserted_is_put rank c.args.action items c.requires.rising (sym there ∙ c.if-is_at.false) in
    let within : c.place_of-place.result ≤ length c.args.actions.now.items = rw place (length-filter_le _ c.args.actions.now.items) in
    (omega arith, (within, rw r.all at c.requires.room))

pub returns-then-is_at : goal.returns-then-is_at
returns-then-is_at g c =
    let items = c.args.actions.now.items in
    let place : c.place_of-place.result ≡ length (below rank (rank c.args.action) c.args.actions.now.items) = c.place_of-place.ensures ∙ rw (c.deref.ensures.0, c.rank-kind.ensures.rank) refl in
    let there : c.is_at.result ≡ is_there rank c.args.action c.args.actions.now.items = c.is_at.ensures ∙ rw (c.deref-2.ensures.0, place, c.rank-kind.ensures.rank) refl in
    take_at c.put_at.new.actions _ _ (c.put_at.auto.actions ∙ ap length c.as_mut_slice.ensures.value)
    ∙ c.put_at.ensures ∙ rw (c.as_mut_slice.ensures.value, place) (replaced_is_put rank c.args.action items c.requires.rising (sym there ∙ c.if-is_at.true))

pub returns-else-is_at : goal.returns-else-is_at
returns-else-is_at g c =
    let items = c.args.actions.now.items in
    let place : c.place_of-place.result ≡ length (below rank (rank c.args.action) c.args.actions.now.items) = c.place_of-place.ensures ∙ rw (c.deref.ensures.0, c.rank-kind.ensures.rank) refl in
    let there : c.is_at.result ≡ is_there rank c.args.action c.args.actions.now.items = c.is_at.ensures ∙ rw (c.deref-2.ensures.0, place, c.rank-kind.ensures.rank) refl in
    let r = inserted_is_put rank c.args.action items c.requires.rising (sym there ∙ c.if-is_at.false) in
    c.insert.ensures.items ∙ rw place r.put_is
