use Rattle.of_mask_groups.proofs.CellLemmas.{is_there, occupied_more}
use Rattle.of_mask_groups.proofs.cells.push_number.Goals as goal

pub returns-clause-occupied : goal.returns-clause-occupied
returns-clause-occupied c = occupied_more c.args.cells.now (c.get_mut.follows.lender c.push_reserved.new.self) c.args.digest c.args.number c.in-Some.cell.now.items c.push_reserved.new.self ((c.get_mut.follows.holds c.push_reserved.new.self).3 (is_there c.requires.stands)) c.push_reserved.ensures.items
