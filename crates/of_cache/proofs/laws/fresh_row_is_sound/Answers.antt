use Rattle.of_cache.proofs.Staying.{fresh_right}
use Rattle.of_cache.proofs.laws.fresh_row_is_sound.Goals as goal

pub returns : goal.returns
returns c = fresh_right
