use Rattle.of_cache.proofs.Changing.{listed_left}
use Rattle.of_cache.proofs.cached.drop_answers.Goals as goal

pub drop_masks-requires-clause-listed : goal.drop_masks-requires-clause-listed
drop_masks-requires-clause-listed c = listed_left c.args.masks.now.items c.args.rows.now.entries c.drop_rows.new.rows.entries c.args.number c.drop_rows.ensures.entries c.requires.listed
