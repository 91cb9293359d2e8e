use Rattle.std.proofs.Common.{◌≤◌, flat_map}
use Rattle.of_datapath.{specs.Buffers.last_id, specs.Told.each_told, specs.Told.frames_for, specs.Told.given_items, proofs.Telling.Telling}
use Rattle.of_machine.specs.Growth.{AllShort}
use Rattle.of_datapath.proofs.told.told_from.Given as goal

abbrev pub invariant-loop-item : goal.invariant-loop-item
invariant-loop-item l =
    (goal.iterator-loop-item).can_next l.item-iterator
    × (goal.iterator-loop-item).is_finite l.item-iterator
    × (l.told.next_id ≤ last_id)
    × AllShort 65485 l.item-iterator
    × Telling l.heard l.ports l.told.next_id l.told.effects.items (each_told l.heard l.next_id (given_items l.heard l.ports l.fn.items.items)) l.told.held.items (flat_map (frames_for l.heard) (given_items l.heard l.ports l.fn.items.items)) l.item-iterator
