use Rattle.std.proofs.Common.{Some, sym, ◌∙◌, ap}
use Rattle.of_mask_groups.proofs.CellLemmas.{all_occupied, but_one, cells_kept, is_there, on_failure, others_occupied, room_made}
use Rattle.of_mask_groups.specs.Cells.{small_vector_items}
use Rattle.of_mask_groups.proofs.cells.make_room.Goals as goal

pub returns-in-Some-clause-same : goal.returns-in-Some-clause-same
returns-in-Some-clause-same c = cells_kept c.args.cells.now (c.get_mut.follows.lender c.reserve.new.self) c.args.digest (Some c.reserve.new.self) ((c.get_mut.follows.holds c.reserve.new.self).3 (is_there (sym c.in-Some.ensures.value))) (c.reserve.ensures.items ∙ ap small_vector_items c.in-Some.ensures.value)

pub returns-in-Some-clause-room : goal.returns-in-Some-clause-room
returns-in-Some-clause-room c = room_made c.reserve.result (c.get_mut.follows.lender c.reserve.new.self) c.args.digest c.reserve.new.self ((c.get_mut.follows.holds c.reserve.new.self).3 (is_there (sym c.in-Some.ensures.value))).1 c.reserve.ensures.ok

pub returns-in-Some-clause-err : goal.returns-in-Some-clause-err
returns-in-Some-clause-err c =
    let old = c.args.cells.now in
    let new = c.get_mut.follows.lender c.reserve.new.self in
    let key = c.args.digest in
    let there = is_there (sym c.in-Some.ensures.value) in
    let changed = (c.get_mut.follows.holds c.reserve.new.self).3 there in
    let same = ap small_vector_items changed.1 ∙ (c.reserve.ensures.items ∙ ap small_vector_items c.in-Some.ensures.value) in
    on_failure c.reserve.result (λ h. all_occupied new key (λ _ empty. h key there (sym same ∙ empty)) (others_occupied old new key (Some c.reserve.new.self) changed (but_one old key h)))

pub returns-in-None-clause-occupied : goal.returns-in-None-clause-occupied
returns-in-None-clause-occupied c = rw c.get_mut.follows.holds-at-none at c.insert_cell.ensures.occupied
