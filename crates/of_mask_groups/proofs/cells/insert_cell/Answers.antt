use Rattle.std.proofs.Common.{Some, length, arith, ◌∙◌, sym, ap}
use Rattle.of_mask_groups.proofs.CellLemmas.{cells_kept, no_items}
use Rattle.of_mask_groups.proofs.cells.insert_cell.Goals as goal

pub returns-clause-same : goal.returns-clause-same
returns-clause-same c = cells_kept c.args.cells.now c.insert.new.self c.args.digest (Some c.new.result) c.in_ok-insert.ensures.updates (c.new.ensures.items ∙ sym (no_items _ c.requires))

pub returns-clause-room : goal.returns-clause-room
returns-clause-room c = record { cell = c.new.result; stands = c.in_ok-insert.ensures.updates.1; room = omega (arith, c.new.ensures.capacity, ap length c.new.ensures.items) }
