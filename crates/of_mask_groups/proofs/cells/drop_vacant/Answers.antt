use Rattle.std.proofs.Common.{None, sym}
use Rattle.of_mask_groups.proofs.CellLemmas.{cells_kept, all_occupied, occupied_without}
use Rattle.of_mask_groups.proofs.cells.drop_vacant.Goals as goal

pub returns-then-is_vacant-clause-same : goal.returns-then-is_vacant-clause-same
returns-then-is_vacant-clause-same c = cells_kept c.args.cells.now c.remove.new.self c.args.digest None c.remove.ensures.updates (sym (c.is_vacant.ensures.empty c.if-is_vacant.true))

pub returns-then-is_vacant-clause-occupied : goal.returns-then-is_vacant-clause-occupied
returns-then-is_vacant-clause-occupied c = occupied_without c.args.cells.now c.remove.new.self c.args.digest c.remove.ensures.updates

pub returns-else-is_vacant-clause-occupied : goal.returns-else-is_vacant-clause-occupied
returns-else-is_vacant-clause-occupied c = all_occupied c.args.cells.now c.args.digest (c.is_vacant.ensures.occupied c.if-is_vacant.false)
